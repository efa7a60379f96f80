use Rattle.hgs_path.proofs.ListTextLemmas.{list-texts}
use Rattle.hgs_path.proofs.grammar.list_texts.Goals as goal

pub returns : goal.returns
returns c = list-texts
