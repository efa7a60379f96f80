-- What the crates below say of pieces of legal logs and of steps, as their laws say it.
use Rattle.std.specs.Prelude.{◌≡◌, ◌⊎◌, ◌++◌, [], Bool, false, List, Ok, Err, None, Option, Result, ℕ, codes}
use Rattle.hgs_files.specs.declared.op.Op.{Op}
use Rattle.hgs_files.specs.Tree.{Tree, after_all}
use Rattle.hgs_commit.specs.declared.fault.CommitFault.{CommitFault}
use Rattle.hgs_commit.specs.declared.fault.CommitFault.TheVariants.{Refused}
use Rattle.hgs_journal.specs.Covers.{is_loose}
use Rattle.hgs_journal.specs.Names.{journal_path}
use Rattle.hgs_legal.specs.Pieces.{LeavesJournal, Piece}
use Rattle.hgs_machine.specs.Course.{CarriedOut, lock_removals}
use Rattle.hgs_machine.specs.Locks.{AreLocked, AreRemoved, IsTurnedAway}
use Rattle.hgs_machine.specs.declared.ended.Short.{Short}
use Rattle.hgs_machine.specs.declared.locks.LockRefusal.{LockRefusal}
use Rattle.hgs_machine.specs.declared.locks.LockRefusal.TheVariants.{Abandoned}
use Rattle.hgs_model.specs.Repo.{Repo}
use Rattle.hgs_model.specs.Step.{Answer, step}
use Rattle.hgs_model.specs.Valid.{AreNewChanges, IsNewChange, IsValid}
use Rattle.hgs_model.specs.declared.command.Command.{Command}
use Rattle.hgs_model.specs.declared.command.Command.TheVariants.{Commit, Import, Mark, Move, Unmark}
use Rattle.hgs_model.specs.declared.command.NewChange.{NewChange}
use Rattle.hgs_model.specs.declared.command.Refusal.{Refusal}
use Rattle.hgs_model.specs.declared.phase.Phase.{Phase}
use Rattle.hgs_ops.specs.Laid.{laid}
use Rattle.hgs_ops.specs.Operations.{lock_path, strays, wlock_path}
use Rattle.hgs_path.specs.declared.name.Ext.{Ext}
use Rattle.hgs_path.specs.StoreName.{store_name}
use Rattle.hgs_writer.specs.Commits.{AnswersAs as CommitAnswersAs}
use Rattle.hgs_commit.specs.Commit.{commit_in}
use Rattle.hgs_bytes.specs.Bytes.{same}
use Rattle.hgs_ops.specs.Unhindered.{IsReady}
use Rattle.hgs_legal.specs.ListsPaths.{ListsPaths}
use Rattle.hgs_writer.specs.BytePaths.{AreOfBytes}
use Rattle.hgs_writer.specs.Imports.{ComesToNothing, ImportAnswersAs, SomeRecord}
use Rattle.hgs_writer.specs.Made.{IsPieceOf}
use Rattle.hgs_writer.specs.Records.{ImportComesTo}
use Rattle.hgs_stands.specs.Open.{IsOpen}
use Rattle.hgs_stands.specs.Stands.{Stands}
use Rattle.hgs_steps.specs.Planned.{AnswersAs, IsLoadedOf}
use Rattle.hgs_steps.specs.Steps.{mark_of, move_of, planned, unmark_of}
use Rattle.hgs_steps.specs.declared.fault.PlanFault.TheVariants.{Refused as refused_for}
use Rattle.hgs_steps.specs.declared.loaded.Loaded.{Loaded}
use Rattle.hgs_steps.specs.declared.step.Step.{Step}
use Rattle.hgs_transaction.specs.Assembled.{IsPlanOf}
use Rattle.hgs_transaction.specs.OfTransaction.{ArePartsOf}
use Rattle.hgs_transaction.specs.declared.assemble.Plan.{Plan}
use Rattle.hgs_transaction.specs.declared.parts.Parts.{Parts}

pub record Below : Type 0 where
  -- pieces
  pub transaction : (t : Tree) (r next : Repo) (command : Command) (who : List ℕ) (answer : Answer) (p : Parts) (plan : Plan) (outcome : Short) (swept : Bool) (locking carrying : List Op) → IsValid command → step r command ≡ Ok (next, answer) → IsReady t r command next → ArePartsOf t r command next p → IsPlanOf p plan → AreLocked who t locking → CarriedOut (after_all locking t) plan outcome swept carrying → IsPieceOf t r next outcome (locking ++ carrying)
  pub turned_away : (t : Tree) (r : Repo) (who : List ℕ) (why : LockRefusal) (swept : Bool) (log : List Op) → IsTurnedAway who t why swept log → (log ≡ []) ⊎ Piece t r log r
  pub released : (t : Tree) (r : Repo) (who : List ℕ) (swept : Bool) (locking releasing : List Op) → AreLocked who t locking → AreRemoved lock_removals swept releasing → Piece t r (locking ++ releasing) r
  pub abandoned : (t : Tree) (who : List ℕ) (swept : Bool) (log : List Op) → t journal_path ≡ None → IsTurnedAway who t Abandoned swept log → ⊥
  pub ends : (t : Tree) (r next : Repo) (log : List Op) → Stands t r → Piece t r log next → Stands (after_all log t) next
  pub left_open : (t : Tree) (r : Repo) (log : List Op) → Stands t r → LeavesJournal t r log → IsOpen strays (after_all log t) r
  -- under the locks
  pub stands : (t : Tree) (r : Repo) (who : List ℕ) (locking : List Op) → AreLocked who t locking → Stands t r → Stands (after_all locking t) r
  pub parts : (t : Tree) (r next : Repo) (command : Command) (who : List ℕ) (p : Parts) (locking : List Op) → AreLocked who t locking → ArePartsOf (after_all locking t) r command next p → ArePartsOf t r command next p
  pub ready : (t : Tree) (r next : Repo) (command : Command) (who : List ℕ) (locking : List Op) → AreLocked who t locking → IsReady (after_all locking t) r command next → IsReady t r command next
  -- steps
  pub moved : (t : Tree) (r : Repo) (l : Loaded) (name : List ℕ) (to : Phase) (force : Bool) → Stands t r → IsLoadedOf t l → AnswersAs t r (Move name to force) (planned l (move_of l name to force)) (step r (Move name to force))
  pub marked : (t : Tree) (r : Repo) (l : Loaded) (mark name : List ℕ) → Stands t r → IsLoadedOf t l → AnswersAs t r (Mark mark name) (planned l (mark_of l mark name)) (step r (Mark mark name))
  pub unmarked : (t : Tree) (r : Repo) (l : Loaded) (mark : List ℕ) → Stands t r → IsLoadedOf t l → AnswersAs t r (Unmark mark) (planned l (unmark_of l mark)) (step r (Unmark mark))
  pub committed : (t : Tree) (r : Repo) (l : Loaded) (n : NewChange) (clash : Option (List ℕ)) → Stands t r → IsLoadedOf t l → IsNewChange n → CommitAnswersAs t r l n clash (commit_in clash l n t) (step r (Commit n))
  pub imported : (t : Tree) (r : Repo) (l : Loaded) (changes : List NewChange) (result : Result Step CommitFault) → Stands t r → IsLoadedOf t l → AreNewChanges changes → AreOfBytes changes → ListsPaths t r → ImportComesTo t l changes result → ImportAnswersAs t r changes result (step r (Import changes))
  pub refused : (t : Tree) (r : Repo) (changes : List NewChange) (e : Refusal) → SomeRecord (ComesToNothing (Refused (refused_for e))) t r changes → step r (Import changes) ≡ Err e
  pub laid_alike : (t u : Tree) (r next : Repo) (n : NewChange) → ((path : List ℕ) → is_loose strays path ≡ false → u path ≡ t path) → (path : List ℕ) → is_loose strays path ≡ false → after_all (laid u r n next) u path ≡ after_all (laid t r n next) t path
  -- files
  pub others : (t : Tree) (who : List ℕ) (locking : List Op) (path : List ℕ) → AreLocked who t locking → same path wlock_path ≡ false → same path lock_path ≡ false → after_all locking t path ≡ t path
  pub filelog_names : (path : List ℕ) (ext : Ext) → (rest : List ℕ) × (store_name path ext ≡ codes "store/d" ++ rest)
