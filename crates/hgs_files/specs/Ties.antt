-- What ties an end to the others that work on the same files.
use Rattle.std.specs.Prelude.{ℕ, List, [], ◌∷◌, Option, Some, None}
use Rattle.hgs_files.specs.declared.op.Op.{Op}
use Rattle.hgs_files.specs.Tree.{Tree}

-- which start it came from, the lists that it was told, and the log before with the tree that this log starts from
pub record Ties : Type 0 where
  pub home : List ℕ
  pub told : List (List Op)
  pub earlier : Option (List Op)
  pub earlier_start : Tree

-- files that stand alone
abbrev pub untied : Ties
untied = record { home = []; told = []; earlier = None; earlier_start = λ path. None }

-- told of one list more, where that is told
abbrev pub told_of : Option (List Op) → Ties → Ties
told_of None ties = ties
told_of (Some log) ties = record ties { told = log ∷ ties.told }
