-- The parents that a commit names.
use Rattle.std.specs.Prelude.{◌<◌, ℕ, List, [], ◌∷◌, Bool, ◌&&◌, ◌||◌, Option, Some, None, IfSome, Result, Ok, Err, is_none, if◌then◌else◌, codes}
use Rattle.hgs_bytes.specs.Bytes.{same}
use Rattle.hgs_index.specs.Revision.{Parents}
use Rattle.hgs_model.specs.Step.{◌>>=◌, as_parents, or_unknown}
use Rattle.hgs_model.specs.declared.command.Refusal.{Refusal}
use Rattle.hgs_reader.specs.Names.{named}
use Rattle.hgs_steps.specs.declared.fault.PlanFault.{PlanFault}
use Rattle.hgs_steps.specs.declared.fault.PlanFault.TheVariants.{Refused}
use Rattle.hgs_steps.specs.declared.loaded.Loaded.{Loaded}
use Rattle.hgs_steps.specs.Loaded.{view_of}

-- `null`, and `.` without a working parent, mean no parent
abbrev pub means_no_parent : Loaded → List ℕ → Bool
means_no_parent l name = same name (codes "null") || (same name (codes ".") && is_none l.working.first)

-- the changesets that the names name, without those that mean no parent
abbrev pub named_all : Loaded → List (List ℕ) → Result (List ℕ) Refusal
named_all l [] = Ok []
named_all l (name ∷ names) =
    if means_no_parent l name then named_all l names
    else (or_unknown (named (view_of l) name) >>= λ rev. named_all l names >>= λ revs. Ok (rev ∷ revs))

-- the parents of a commit that names these
abbrev pub parents_answer : Result (List ℕ) Refusal → Result Parents PlanFault
parents_answer (Err e) = Err (Refused e)
parents_answer (Ok revs) = Ok (as_parents revs)

-- the first two of the changesets that were named, and those behind them
abbrev pub two_then : Option ℕ → Option ℕ → List ℕ → List ℕ
two_then None second more = more
two_then (Some a) None more = a ∷ more
two_then (Some a) (Some b) more = a ∷ b ∷ more

-- the parents, where two were named already, and what those behind them name
abbrev pub parents_behind : Option ℕ → Option ℕ → Result (List ℕ) Refusal → Result Parents PlanFault
parents_behind first second (Err e) = Err (Refused e)
parents_behind first second (Ok more) = Ok (as_parents (two_then first second more))

-- both, where they are there, are below this number
pub record AreBelow (first second : Option ℕ) (count : ℕ) : Type 0 where
  pub first_is : IfSome first (λ rev. rev < count)
  pub second_is : IfSome second (λ rev. rev < count)
