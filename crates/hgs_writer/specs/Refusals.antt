-- How often the calls of a command on the files were refused, at the least, by its answer.
use Rattle.std.specs.Prelude.{ℕ, ◌+◌, Bool, List, ◌++◌, Option, Some, None}
use Rattle.hgs_answers.specs.declared.answer.Answer.{Answer}
use Rattle.hgs_answers.specs.declared.outcome.Outcome.{Outcome}
use Rattle.hgs_answers.specs.declared.outcome.Outcome.TheVariants.{Fault, LockHeld, Unfinished}
use Rattle.hgs_answers.specs.declared.outcome.Published.{Published}
use Rattle.hgs_answers.specs.declared.outcome.Published.TheVariants.{No, Yes, Unknown}
use Rattle.hgs_files.specs.declared.op.Op.{Op}
use Rattle.hgs_files.specs.Tree.{Tree, after_all}
use Rattle.hgs_index.specs.declared.node.Node.{Node}
use Rattle.hgs_machine.specs.Refusals.{how_many_made, how_many_stand, lock_paths, refusals_of_holder, refusals_of_left}
use Rattle.hgs_ops.specs.Operations.{strays}

-- Behind its publication one call is enough to leave a transaction unfinished; before that another one kept it from being taken
-- back, or its file's size from being told.
abbrev pub refusals_of_unfinished : Published → ℕ
refusals_of_unfinished No = 2
refusals_of_unfinished Yes = 1
refusals_of_unfinished Unknown = 2

-- A fault is one. The holder of a lock is told where the log is and no call was refused.
abbrev pub refusals_of_outcome : Bool → Outcome → ℕ
refusals_of_outcome told (LockHeld holder) = refusals_of_holder told holder
refusals_of_outcome told (Unfinished published) = refusals_of_unfinished published
refusals_of_outcome told Fault = 1
refusals_of_outcome told _ = 0

-- and one more where something is left
abbrev pub refusals_of : Bool → Answer → ℕ
refusals_of told answer = refusals_of_outcome told answer.outcome + refusals_of_left answer.swept

-- the files that are removed behind a transaction that ended so: only the locks where its journal may stand
abbrev pub paths_behind : Outcome → List (List ℕ)
paths_behind (Unfinished published) = lock_paths
paths_behind _ = strays ++ lock_paths

-- How many files a call leaves behind: where it had no plan those of the locks that it made, and else all that were to be removed
-- and stand, also where they stood before.
abbrev pub left_by : Option (ℕ × Node) → Outcome → Tree → Tree → ℕ
left_by None outcome before now = how_many_made lock_paths before now
left_by (Some changeset) outcome before now = how_many_stand (paths_behind outcome) now

-- As many calls were refused as its outcome tells of, and one more for each file that it leaves behind.
abbrev pub refusals_with : Bool → Outcome → Option (ℕ × Node) → Tree → List Op → ℕ
refusals_with told outcome changeset t done = refusals_of_outcome told outcome + left_by changeset outcome t (after_all done t)
