-- What is found by looking at files.
use Rattle.std.specs.Prelude.{◌≡◌, Bool, true, List, Option, IfSome}
use Rattle.hgs_files.specs.declared.op.Op.{Op}
use Rattle.hgs_files.specs.Tree.{Tree, after_all}

-- a fact of the tree that a call looked at, where nobody else writes and the list of operations is told
abbrev pub OfTree : Bool → Option (List Op) → Tree → (Tree → Type 0) → Type 0
OfTree alone seen start fact = alone ≡ true → IfSome seen (λ log. fact (after_all log start))
