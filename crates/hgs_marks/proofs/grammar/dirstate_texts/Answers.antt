use Rattle.hgs_marks.proofs.DirstateTextLemmas.{dirstate-texts}
use Rattle.hgs_marks.proofs.grammar.dirstate_texts.Goals as goal

pub returns : goal.returns
returns c = dirstate-texts
