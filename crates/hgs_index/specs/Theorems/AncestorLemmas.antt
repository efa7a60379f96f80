-- Ancestors.
use Rattle.std.proofs.Common.{ℕ, List}
use Rattle.hgs_index.specs.Revision.{Parents}
use Rattle.hgs_index.specs.Ancestor.{IsAncestor, itself, of_parent}

-- each changeset is its own ancestor
pub IsAncestor-refl : (history : List Parents) (a : ℕ) → IsAncestor history a a
IsAncestor-refl history a = itself

-- an ancestor of an ancestor is an ancestor
pub IsAncestor-trans : (history : List Parents) (a b c : ℕ) → IsAncestor history a b → IsAncestor history b c → IsAncestor history a c
IsAncestor-trans history a b _ h itself = h
IsAncestor-trans history a b _ h (of_parent {p = p} is k) = of_parent is (IsAncestor-trans history a b p h k)
