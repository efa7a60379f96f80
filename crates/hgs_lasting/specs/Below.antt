-- What the laws of the crates below say that the laws here rest on.
use Rattle.std.specs.Prelude.{◌≡◌, ◌⊎◌, ℕ, List, Bool, None, false}
use Rattle.hgs_answers.specs.declared.answer.Answer.{Answer}
use Rattle.hgs_bytes.specs.Bytes.{same}
use Rattle.hgs_files.specs.declared.op.Op.{Op}
use Rattle.hgs_files.specs.Stop.{IsStopped, StopLeaves}
use Rattle.hgs_files.specs.Tree.{Tree, after_all, bytes_at}
use Rattle.hgs_journal.specs.Covers.{Covers, is_loose}
use Rattle.hgs_journal.specs.Names.{journal_path}
use Rattle.hgs_legal.specs.ListsPaths.{ListsOnlyPaths, ListsPaths}
use Rattle.hgs_legal.specs.Pieces.{LeavesJournal, Piece}
use Rattle.hgs_machine.specs.Locks.{AreLocked, IsTurnedAway}
use Rattle.hgs_machine.specs.declared.locks.LockRefusal.{LockRefusal}
use Rattle.hgs_model.specs.Repo.{Repo}
use Rattle.hgs_model.specs.Step.{step}
use Rattle.hgs_model.specs.Valid.{IsValid}
use Rattle.hgs_model.specs.declared.command.Command.{Command}
use Rattle.hgs_ops.specs.Operations.{lock_path, strays, wlock_path}
use Rattle.hgs_recover.specs.Found.{answer_in}
use Rattle.hgs_recover.specs.Recovering.{RecoversBy}
use Rattle.hgs_recover.specs.declared.answer.RecoverAnswer.{RecoverAnswer}
use Rattle.hgs_recover.specs.declared.answer.RecoverAnswer.TheVariants.{Restored}
use Rattle.hgs_stands.specs.Open.{IsOpen}
use Rattle.hgs_stands.specs.Places.{fncache_path}
use Rattle.hgs_stands.specs.Stands.{Stands}
use Rattle.hgs_writer.specs.Alone.{IsAnswered, IsBarred, IsStopOf}
use Rattle.hgs_writer.specs.Written.{IsWritten}

pub record Below : Type 0 where
  -- calls
  pub answered : (t : Tree) (r : Repo) (command : Command) (who : List ℕ) (answer : Answer) (done : List Op) → Stands t r → IsValid command → ListsPaths t r → IsWritten who command t answer done → IsAnswered r (step r command) answer.outcome (after_all done t)
  pub lists : (t : Tree) (r : Repo) (command : Command) (who : List ℕ) (answer : Answer) (done : List Op) → Stands t r → IsValid command → ListsPaths t r → IsWritten who command t answer done → ListsOnlyPaths (after_all done t)
  pub stops : (t : Tree) (r : Repo) (command : Command) (who : List ℕ) (answer : Answer) (done d : List Op) → Stands t r → IsValid command → ListsPaths t r → IsWritten who command t answer done → IsStopped done d → IsStopOf t r (step r command) d
  pub barred : (t : Tree) (command : Command) (who : List ℕ) (answer : Answer) (done : List Op) → (t journal_path ≡ None → ⊥) → IsWritten who command t answer done → IsBarred answer.outcome
  pub no_journal : (who : List ℕ) (t : Tree) (locking : List Op) → AreLocked who t locking → t journal_path ≡ None
  pub stays_open : (t : Tree) (r : Repo) (who : List ℕ) (why : LockRefusal) (swept : Bool) (log d : List Op) → IsOpen strays t r → IsTurnedAway who t why swept log → IsStopped log d → IsOpen strays (after_all d t) r
  pub others : (t : Tree) (who : List ℕ) (why : LockRefusal) (swept : Bool) (log d : List Op) (path : List ℕ) → IsTurnedAway who t why swept log → IsStopped log d → same path wlock_path ≡ false → same path lock_path ≡ false → after_all d t path ≡ t path
  -- pieces
  pub piece_stands : (t : Tree) (r next : Repo) (log : List Op) → Stands t r → Piece t r log next → Stands (after_all log t) next
  pub piece_lists : (t : Tree) (r next : Repo) (log : List Op) → Stands t r → ListsPaths t r → Piece t r log next → ListsPaths (after_all log t) next
  pub left_open : (t : Tree) (r : Repo) (log : List Op) → Stands t r → LeavesJournal t r log → IsOpen strays (after_all log t) r
  pub left_lists : (t : Tree) (r : Repo) (log : List Op) → Stands t r → ListsPaths t r → LeavesJournal t r log → ListsPaths (after_all log t) r
  pub same_list : (t u : Tree) (r : Repo) → bytes_at u fncache_path ≡ bytes_at t fncache_path → ListsPaths t r → ListsPaths u r
  -- recovering
  pub covered_list : (u q : Tree) (r : Repo) → Covers strays u q → ListsPaths u r → ListsPaths q r
  pub found_open : (t : Tree) (r : Repo) → IsOpen strays t r → answer_in t ≡ Restored
  pub leads_back : (t : Tree) (r : Repo) (swept : Bool) (log : List Op) → IsOpen strays t r → RecoversBy t Restored swept log → Stands (after_all log t) r
  pub recovered_open : (t u : Tree) (r : Repo) (answer : RecoverAnswer) (swept : Bool) (log : List Op) → IsOpen strays t r → RecoversBy t answer swept log → StopLeaves t log u → IsOpen strays u r ⊎ Stands u r
  pub recovered_files : (t q u : Tree) (answer : RecoverAnswer) (swept : Bool) (log : List Op) (path : List ℕ) → Covers strays t q → RecoversBy t answer swept log → StopLeaves t log u → is_loose strays path ≡ false → same path journal_path ≡ false
      → (bytes_at u path ≡ bytes_at t path) ⊎ (bytes_at u path ≡ bytes_at q path)
  pub recovered_standing : (t u : Tree) (r : Repo) (answer : RecoverAnswer) (swept : Bool) (log : List Op) → Stands t r → RecoversBy t answer swept log → StopLeaves t log u → Stands u r
  pub recovered_others : (t u : Tree) (answer : RecoverAnswer) (swept : Bool) (log : List Op) (path : List ℕ) → t journal_path ≡ None → RecoversBy t answer swept log → StopLeaves t log u → is_loose strays path ≡ false → u path ≡ t path
