use Rattle.hgs_index.specs.Theorems.AncestorLemmas.{IsAncestor-refl, IsAncestor-trans}
use Rattle.hgs_index.proofs.laws.ancestor_order.Goals as goal

pub returns : goal.returns
returns c = record { reflexive = IsAncestor-refl; transitive = IsAncestor-trans }
