use Rattle.hgs_phases.specs.Theorems.RootTextLemmas.{read_texts}
use Rattle.hgs_phases.proofs.laws.read_texts.Goals as goal

pub returns : goal.returns
returns c = read_texts
