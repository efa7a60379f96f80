-- What the laws of the crates below say.
use Rattle.std.specs.Prelude.{◌≡◌, ◌⊎◌, ℕ, List, [], ◌++◌, Bool, true, false, Option, None}
use Rattle.hgs_bytes.specs.Bytes.{same}
use Rattle.std.specs.List.{AllByRecursion}
use Rattle.hgs_answers.specs.declared.answer.Answer.{Answer}
use Rattle.hgs_files.specs.declared.op.Op.{Op}
use Rattle.hgs_files.specs.Stop.{IsStopped, StopLeaves}
use Rattle.hgs_files.specs.Tree.{Tree, after_all, bytes_at}
use Rattle.hgs_journal.specs.Covers.{Covers, Restores, is_loose}
use Rattle.hgs_journal.specs.Names.{journal_path}
use Rattle.hgs_legal.specs.ListsPaths.{ListsOnlyPaths, ListsPaths}
use Rattle.hgs_legal.specs.Pieces.{Piece}
use Rattle.hgs_machine.specs.Asked.{asked}
use Rattle.hgs_machine.specs.Course.{CarriedOut, lock_removals}
use Rattle.hgs_machine.specs.Fed.{fed, is_acknowledged, is_published, new_machine}
use Rattle.hgs_machine.specs.Locks.{AreLocked, AreRemoved, IsTurnedAway}
use Rattle.hgs_machine.specs.Planned.{IsPlanned}
use Rattle.hgs_machine.specs.SoFar.{Fits, IsInPart, SoFar, Steps, stopped_as}
use Rattle.hgs_machine.specs.declared.locks.LockRefusal.{LockRefusal}
use Rattle.hgs_machine.specs.declared.machine.Machine.{Machine}
use Rattle.hgs_machine.specs.declared.machine.Reply.TheVariants.{Done, Failed, Size}
use Rattle.hgs_model.specs.Repo.{Repo, empty_repo}
use Rattle.hgs_model.specs.Step.{step}
use Rattle.hgs_model.specs.Valid.{IsValid}
use Rattle.hgs_model.specs.declared.command.Command.{Command}
use Rattle.hgs_ops.specs.Operations.{lock_path, strays, wlock_path}
use Rattle.hgs_recover.specs.Found.{answer_in}
use Rattle.hgs_recover.specs.Recovering.{RecoversBy}
use Rattle.hgs_recover.specs.declared.answer.RecoverAnswer.{RecoverAnswer}
use Rattle.hgs_recover.specs.declared.answer.RecoverAnswer.TheVariants.{NothingToDo, Restored}
use Rattle.hgs_stands.specs.Open.{IsOpen}
use Rattle.hgs_stands.specs.Places.{fncache_path, store_files}
use Rattle.hgs_stands.specs.Requires.{IsInProfile}
use Rattle.hgs_stands.specs.Stands.{IsClean, Stands}
use Rattle.hgs_transaction.specs.declared.assemble.Plan.{Plan}
use Rattle.hgs_writer.specs.Alone.{IsAnswered}
use Rattle.hgs_writer.specs.Written.{IsWritten}

-- what the laws of machines say
pub record Going : Type 0 where
  pub done : (m : Machine) → Steps m Done (fed m Done)
  pub failed : (m : Machine) → Steps m Failed (fed m Failed)
  pub sized : (m : Machine) (size : Option ℕ) → Steps m (Size size) (fed m (Size size))

-- what the laws of machines say of that
pub record Progress : Type 0 where
  pub published_done : (m : Machine) → is_published m ≡ true → is_published (fed m Done) ≡ true
  pub published_failed : (m : Machine) → is_published m ≡ true → is_published (fed m Failed) ≡ true
  pub published_sized : (m : Machine) (size : Option ℕ) → Fits (asked m) (Size size) → is_published m ≡ true → is_published (fed m (Size size)) ≡ true
  pub acknowledged_done : (m : Machine) → is_acknowledged m ≡ true → is_acknowledged (fed m Done) ≡ true
  pub acknowledged_failed : (m : Machine) → is_acknowledged m ≡ true → is_acknowledged (fed m Failed) ≡ true
  pub acknowledged_sized : (m : Machine) (size : Option ℕ) → Fits (asked m) (Size size) → is_acknowledged (fed m (Size size)) ≡ is_acknowledged m
  pub acknowledged_published : (m : Machine) → is_acknowledged m ≡ true → is_published m ≡ true

-- what the laws of the crates below say
pub record Laws : Type 0 where
  pub going : Going
  pub progress : Progress
  pub begins : (t : Tree) (plan : Plan) → IsPlanned t plan → SoFar t (new_machine plan) []
  pub stop : (t : Tree) (m : Machine) (log more : List Op) → SoFar t m log → IsInPart (asked m) more → CarriedOut t m.plan (stopped_as m) false (log ++ more)
  pub answered : (t : Tree) (r : Repo) (command : Command) (who : List ℕ) (answer : Answer) (done : List Op) → Stands t r → IsValid command → ListsPaths t r → IsWritten who command t answer done → IsAnswered r (step r command) answer.outcome (after_all done t)
  pub lists : (t : Tree) (r : Repo) (command : Command) (who : List ℕ) (answer : Answer) (done : List Op) → Stands t r → IsValid command → ListsPaths t r → IsWritten who command t answer done → ListsOnlyPaths (after_all done t)
  pub piece_lists : (t : Tree) (r next : Repo) (log : List Op) → Stands t r → ListsPaths t r → Piece t r log next → ListsPaths (after_all log t) next
  pub same_list : (t u : Tree) (r : Repo) → bytes_at u fncache_path ≡ bytes_at t fncache_path → ListsPaths t r → ListsPaths u r
  pub covered_list : (u q : Tree) (r : Repo) → Covers strays u q → ListsPaths u r → ListsPaths q r
  pub restored_list : (u q : Tree) (r : Repo) → Restores strays u q → ListsPaths q r → ListsPaths u r
  pub no_list : (t : Tree) (r : Repo) → bytes_at t fncache_path ≡ [] → ListsPaths t r
  pub turned_away_others : (t : Tree) (who : List ℕ) (why : LockRefusal) (swept : Bool) (log d : List Op) (path : List ℕ) → IsTurnedAway who t why swept log → IsStopped log d → same path wlock_path ≡ false → same path lock_path ≡ false → after_all d t path ≡ t path
  pub recovered_others : (t u : Tree) (answer : RecoverAnswer) (swept : Bool) (log : List Op) (path : List ℕ) → t journal_path ≡ None → RecoversBy t answer swept log → StopLeaves t log u → is_loose strays path ≡ false → u path ≡ t path
  pub restores : (t q : Tree) (swept : Bool) (log : List Op) → Covers strays t q → RecoversBy t Restored swept log → Restores strays (after_all log t) q
  pub turned_away : (t : Tree) (r : Repo) (who : List ℕ) (why : LockRefusal) (swept : Bool) (log : List Op) → IsTurnedAway who t why swept log → (log ≡ []) ⊎ Piece t r log r
  pub released : (t : Tree) (r : Repo) (who : List ℕ) (swept : Bool) (locking releasing : List Op) → AreLocked who t locking → AreRemoved lock_removals swept releasing → Piece t r (locking ++ releasing) r
  pub piece_stands : (t : Tree) (r next : Repo) (log : List Op) → Stands t r → Piece t r log next → Stands (after_all log t) next
  pub stays_open : (t : Tree) (r : Repo) (who : List ℕ) (why : LockRefusal) (swept : Bool) (log d : List Op) → IsOpen strays t r → IsTurnedAway who t why swept log → IsStopped log d → IsOpen strays (after_all d t) r
  pub no_journal : (who : List ℕ) (t : Tree) (locking : List Op) → AreLocked who t locking → t journal_path ≡ None
  pub found_open : (t : Tree) (r : Repo) → IsOpen strays t r → answer_in t ≡ Restored
  pub leads_back : (t : Tree) (r : Repo) (swept : Bool) (log : List Op) → IsOpen strays t r → RecoversBy t Restored swept log → Stands (after_all log t) r
  pub found_standing : (t : Tree) (r : Repo) → Stands t r → answer_in t ≡ NothingToDo
  pub cleans : (t : Tree) (r : Repo) (log : List Op) → Stands t r → RecoversBy t NothingToDo true log → IsClean (after_all log t) r
  pub first_stands : (t : Tree) → IsInProfile t → AllByRecursion (λ path. bytes_at t path ≡ []) store_files → t journal_path ≡ None → Stands t empty_repo
