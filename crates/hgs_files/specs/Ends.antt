-- How ends that share files begin and end.
use Rattle.std.specs.Prelude.{◌≡◌, ℕ, List, [], ◌++◌, Option, Some, None, IfSome, fold}
use mathlib.Core.List.{IsPrefix}
use Rattle.hgs_files.specs.declared.op.Op.{Op}
use Rattle.hgs_files.specs.Tree.{Tree, after_all}
use Rattle.hgs_files.specs.Ties.{Ties}
use Rattle.hgs_files.specs.Reads.{Covers, counted}

-- The writing end begins with an empty log, from the tree that the files at rest have, and keeps their log as the earlier one.
abbrev pub Begins : Option (List Op) → Tree → Option (List Op) → Tree → Ties → Type 0
Begins None start log new ties = Unit {0}
Begins (Some old) start log new ties = (log ≡ Some []) × (new ≡ after_all old start) × (ties.earlier ≡ Some old) × (ties.earlier_start ≡ start)

-- A reading end has the same home, and begins with nothing seen and told.
abbrev pub BeginsBeside : Option (List Op) → Tree → Ties → Option (List Op) → Tree → Ties → Type 0
BeginsBeside None first lead seen start ties = ties.home ≡ lead.home
BeginsBeside (Some log) first lead seen start ties = (ties.home ≡ lead.home) × (seen ≡ Some []) × (start ≡ first) × (ties.told ≡ [])

-- The log at rest is the earlier one and then that of the writing end.
abbrev pub Follow : Ties → Option (List Op) → Option (List Op) → Tree → Type 0
Follow ties None log start = Unit {0}
Follow ties (Some new) log start = IfSome ties.earlier (λ old. (log ≡ Some (old ++ new)) × (start ≡ ties.earlier_start))

-- What a reading end saw and was told begins the log.
abbrev pub EndsWithin : Option (List Op) → Option (List Op) → List (List Op) → Type 0
EndsWithin None seen told = Unit {0}
EndsWithin (Some log) seen told = IfSome seen (λ l. IsPrefix l log) × Covers told log

-- the counts of several ends together, at most the greatest value
abbrev pub total_of : {R : Type 0} → (R → ℕ) → List R → ℕ
total_of count rs = fold (λ n r. counted n (count r)) 0 rs
