use Rattle.hgs_causes.proofs.WrittenLemmas.{clash-written}
use Rattle.hgs_causes.proofs.laws.clashes_have_names.Goals as goal

pub returns : goal.returns
returns c = clash-written c.commits_agree.ensures c.locks_do_not_matter.ensures.others c.locks_do_not_matter.ensures.stands
