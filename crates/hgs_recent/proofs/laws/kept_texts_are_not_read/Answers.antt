use Rattle.hgs_recent.proofs.GivenLemmas.{kept-given, plain-given}
use Rattle.hgs_recent.proofs.laws.kept_texts_are_not_read.Goals as goal

pub returns-clause-plain : goal.returns-clause-plain
returns-clause-plain c = plain-given

pub returns-clause-kept : goal.returns-clause-kept
returns-clause-kept c = kept-given
