use Rattle.hgs_index.specs.Theorems.AncestorTestLemmas.{is_ancestor-decides}
use Rattle.hgs_index.proofs.laws.ancestor_test.Goals as goal

pub returns : goal.returns
returns c = λ history a b earlier lt. is_ancestor-decides history earlier a b lt
