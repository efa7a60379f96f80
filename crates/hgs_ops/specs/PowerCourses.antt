-- Commands, one after another, done whole or taken back, over losses of power.
use Rattle.std.specs.Prelude.{◌≡◌, ◌++◌, ℕ, suc, List, [], ◌∷◌, Ok}
use Rattle.hgs_files.specs.declared.op.Op.{Op}
use Rattle.hgs_files.specs.Log.{IsDone}
use Rattle.hgs_files.specs.Tree.{Tree, after_all}
use Rattle.hgs_journal.specs.Begun.{bytes_before}
use Rattle.hgs_model.specs.Repo.{Repo}
use Rattle.hgs_model.specs.Step.{Answer, step}
use Rattle.hgs_model.specs.Valid.{IsValid}
use Rattle.hgs_model.specs.declared.command.Command.{Command}
use Rattle.hgs_power.specs.Course.{Part, disk_after}
use Rattle.hgs_power.specs.Disk.{Disk, run, tree_now}
use Rattle.hgs_power.specs.Transaction.{Steps, parts_of, recovered_parts_of, undone_parts_of}
use Rattle.hgs_power.specs.Undo.{undo_list}
use Rattle.hgs_ops.specs.PowerSteps.{power_locks, power_steps, resting_at}
use Rattle.hgs_ops.specs.Unhindered.{IsReady}

-- What became of a transaction: it was done whole; or this much was done before it was published, and these operations took
-- it back; or it was published, this much was done behind that, and recovery took it back by these operations.
pub data Fate : Type 0 where
  whole : Fate
  undone : List Op → List Op → Fate
  recovered : List Op → List Op → Fate

-- a writer with its command, the repository that the command gives, its answer, and what became of it
pub record Call : Type 0 where
  pub who : List ℕ
  pub command : Command
  pub next : Repo
  pub answer : Answer
  pub fate : Fate

-- the tree on which a writer finds the repository, with its locks
abbrev pub locked_tree : Disk → Call → Tree
locked_tree d call = after_all (power_locks call.who) (tree_now d)

abbrev pub steps_of_call : Repo → Disk → Call → Steps
steps_of_call r d call = power_steps (locked_tree d call) r call.command call.who call.next

-- the bytes that its replaced files had
abbrev pub kept_of_call : Repo → Disk → Call → List (List ℕ)
kept_of_call r d call = bytes_before (tree_now (run (steps_of_call r d call).locks d)) (steps_of_call r d call).backups

abbrev pub parts_as : Fate → Steps → List (List ℕ) → List Part
parts_as whole s kept = parts_of s
parts_as (undone done ops) s kept = undone_parts_of s kept done ops
parts_as (recovered done ops) s kept = recovered_parts_of s kept done ops

abbrev pub parts_of_call : Repo → Disk → Call → List Part
parts_of_call r d call = parts_as call.fate (steps_of_call r d call) (kept_of_call r d call)

-- how many transactions were acknowledged after it
abbrev pub number_after : Fate → ℕ → ℕ
number_after whole a = suc a
number_after (undone done ops) a = a
number_after (recovered done ops) a = a

-- what was done of it is done of its operations, in whatever pieces
abbrev pub HasFate : (ℕ → Repo) → ℕ → Repo → Fate → Steps → List (List ℕ) → Type 0
HasFate repos a next whole s kept = next ≡ repos (suc a)
HasFate repos a next (undone done ops) s kept = (left : List Op) × IsDone s.changes done left × IsDone (undo_list s.journal s.backups kept) ops []
HasFate repos a next (recovered done ops) s kept = (left : List Op) × IsDone s.renames done left × IsDone (undo_list s.journal s.backups kept) ops []

-- the parts of calls, from a disk at rest after so many transactions
abbrev pub parts_of_calls : (ℕ → Repo) → ℕ → Disk → List Call → List Part
parts_of_calls repos a d [] = []
parts_of_calls repos a d (call ∷ calls) =
    parts_of_call (repos a) d call ++ parts_of_calls repos (number_after call.fate a) (disk_after (parts_of_call (repos a) d call) d (resting_at a)) calls

-- Each command is accepted by the repository before it, and nothing hinders it; one that is done whole gives the next repository.
abbrev pub AreCalls : (ℕ → Repo) → ℕ → Disk → List Call → Type 0
AreCalls repos a d [] = Unit {0}
AreCalls repos a d (call ∷ calls) =
    (IsValid call.command × (step (repos a) call.command ≡ Ok (call.next, call.answer)) × IsReady (locked_tree d call) (repos a) call.command call.next
    × HasFate repos a call.next call.fate (steps_of_call (repos a) d call) (kept_of_call (repos a) d call))
    × AreCalls repos (number_after call.fate a) (disk_after (parts_of_call (repos a) d call) d (resting_at a)) calls
