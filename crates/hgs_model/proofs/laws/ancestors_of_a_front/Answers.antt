use Rattle.hgs_model.proofs.AncestorFrontLemmas.{ancestor-front}
use Rattle.hgs_model.specs.Theorems.StepLemmas.{parent-before}
use Rattle.hgs_model.proofs.laws.ancestors_of_a_front.Goals as goal

pub returns : goal.returns
returns c = record { front = ancestor-front; before = λ history child parent before is. parent-before history before child parent is }
