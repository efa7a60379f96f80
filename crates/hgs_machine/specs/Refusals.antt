-- How many calls on the files were refused, at the least.
use Rattle.std.specs.Prelude.{ℕ, zero, suc, ◌+◌, ◌≤◌, max, Bool, true, false, List, [], ◌∷◌, ◌++◌, Option, Some, None, if◌then◌else◌}
use Rattle.hgs_files.specs.Reads.{counted}
use Rattle.hgs_files.specs.Tree.{Tree}
use Rattle.hgs_ops.specs.Operations.{lock_path, strays, wlock_path}
use Rattle.hgs_machine.specs.declared.ended.Published.TheVariants.{No, Yes, Unknown}
use Rattle.hgs_machine.specs.declared.ended.Short.{Short}
use Rattle.hgs_machine.specs.declared.ended.Short.TheVariants.{Done as AllDone, Fault, Unfinished, Memory as OutOfMemory}
use Rattle.hgs_machine.specs.declared.locks.LockRefusal.{LockRefusal}
use Rattle.hgs_machine.specs.declared.locks.LockRefusal.TheVariants.{Held, Abandoned, Fault as LockFault, Memory as NoMemory}
use Rattle.hgs_machine.specs.declared.machine.Machine.{Machine}
use Rattle.hgs_machine.specs.declared.machine.Reply.{Reply}
use Rattle.hgs_machine.specs.declared.machine.Reply.TheVariants.{Done, Size}
use Rattle.hgs_machine.specs.declared.machine.Stage.{Stage}
use Rattle.hgs_machine.specs.declared.machine.Stage.TheVariants.{Asking, Undoing}

-- So many calls were refused since the old counts, or more: each failed or found no memory, and was counted.
pub record WereRefused (calls faults_old faults_new denied_old denied_new : ℕ) : Type 0 where
  pub failed : ℕ
  pub wanting : ℕ
  pub all : calls ≤ failed + wanting
  pub faults : counted faults_old failed ≤ faults_new
  pub denied : counted denied_old wanting ≤ denied_new

-- where something is left, a call was refused that was to remove it, or to tell whether it stands
abbrev pub refusals_of_left : Bool → ℕ
refusals_of_left true = 0
refusals_of_left false = 1

-- What is taken back was refused once. What is left unfinished was refused once where it is published, and else once more, while it
-- was taken back or at the question for the size.
abbrev pub refusals_of_short : Short → ℕ
refusals_of_short AllDone = 0
refusals_of_short Fault = 1
refusals_of_short OutOfMemory = 1
refusals_of_short (Unfinished Yes) = 1
refusals_of_short (Unfinished No) = 2
refusals_of_short (Unfinished Unknown) = 2

-- how often the calls of a transaction were refused that ended so
abbrev pub refusals_of_ended : Short → Bool → ℕ
refusals_of_ended outcome swept = refusals_of_short outcome + refusals_of_left swept

-- those of a machine that stands at a stage: to take it back there must have been one
abbrev pub refusals_at : Stage → Short → ℕ
refusals_at Asking outcome = max 1 (refusals_of_short outcome)
refusals_at Undoing outcome = max 1 (refusals_of_short outcome)
refusals_at _ outcome = refusals_of_short outcome

abbrev pub refusals_so_far : Machine → ℕ
refusals_so_far m = refusals_at m.stage m.outcome + refusals_of_left m.swept

-- what a reply tells
abbrev pub refusals_in : Reply → ℕ
refusals_in Done = 0
refusals_in (Size size) = 0
refusals_in _ = 1

-- ---- locks

-- where the log is told a holder can be read, unless the read is refused
abbrev pub refusals_of_holder : Bool → Option (List ℕ) → ℕ
refusals_of_holder told (Some bytes) = 0
refusals_of_holder told None = if told then 1 else 0

abbrev pub refusals_of_lock : Bool → LockRefusal → ℕ
refusals_of_lock told (Held holder) = refusals_of_holder told holder
refusals_of_lock told Abandoned = 0
refusals_of_lock told LockFault = 1
refusals_of_lock told NoMemory = 0

-- how often the calls of a writer were refused that did not get the locks
abbrev pub refusals_of_locks : Bool → LockRefusal → Bool → ℕ
refusals_of_locks told why swept = refusals_of_lock told why + refusals_of_left swept

-- the locks that are made and removed
abbrev pub lock_paths : List (List ℕ)
lock_paths = lock_path ∷ wlock_path ∷ []

-- one that a call made could not be made
abbrev pub refusals_of_call : Bool → LockRefusal → ℕ
refusals_of_call told NoMemory = 1
refusals_of_call told why = refusals_of_lock told why

-- ---- files that stay behind

abbrev pub standing : Option (List ℕ) → ℕ
standing None = 0
standing (Some bytes) = 1

-- how many of these files stand
abbrev pub how_many_stand : List (List ℕ) → Tree → ℕ
how_many_stand [] t = 0
how_many_stand (path ∷ paths) t = standing (t path) + how_many_stand paths t

abbrev pub made_now : Option (List ℕ) → Option (List ℕ) → ℕ
made_now None (Some bytes) = 1
made_now _ _ = 0

-- how many of them stand that did not before
abbrev pub how_many_made : List (List ℕ) → Tree → Tree → ℕ
how_many_made [] before now = 0
how_many_made (path ∷ paths) before now = made_now (before path) (now path) + how_many_made paths before now

-- The files that are removed behind a transaction that ended so: only the locks where its journal may stand, since a later call
-- needs the strays to take it back.
abbrev pub paths_removed_after : Short → List (List ℕ)
paths_removed_after AllDone = strays ++ lock_paths
paths_removed_after Fault = strays ++ lock_paths
paths_removed_after OutOfMemory = strays ++ lock_paths
paths_removed_after (Unfinished published) = lock_paths

-- Each lock that was made and stands was not removed, which is one refusal more; where one does, want of memory was that of a call.
abbrev pub refusals_of_made : Bool → LockRefusal → ℕ → ℕ
refusals_of_made told NoMemory zero = 0
refusals_of_made told NoMemory (suc n) = 1 + suc n
refusals_of_made told why n = refusals_of_lock told why + n
