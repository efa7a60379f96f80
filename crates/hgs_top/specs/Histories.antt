-- What a command that was answered did to files that stood for a repository.
use Rattle.std.specs.Prelude.{◌≡◌, ◌⊎◌, ◌++◌, List, [], Option, Some, None, ℕ, Ok, IfSome, IsSome, ⊤}
use Rattle.std.specs.List.{AllByRecursion}
use Rattle.hgs_answers.specs.declared.outcome.Outcome.{Outcome}
use Rattle.hgs_files.specs.declared.op.Op.{Op}
use Rattle.hgs_files.specs.Stop.{IsStopped}
use Rattle.hgs_files.specs.Tree.{Tree, after_all, bytes_at}
use Rattle.hgs_journal.specs.Names.{journal_path}
use Rattle.hgs_legal.specs.ListsPaths.{ListsOnlyPaths}
use Rattle.hgs_legal.specs.Pieces.{Pieces}
use Rattle.hgs_load.specs.Open.{requires_path}
use Rattle.hgs_model.specs.Repo.{Repo, empty_repo}
use Rattle.hgs_model.specs.Step.{step}
use Rattle.hgs_model.specs.declared.command.Command.{Command}
use Rattle.hgs_ops.specs.Operations.{strays}
use Rattle.hgs_recover.specs.Recovering.{WhereSwept}
use Rattle.hgs_recover.specs.declared.answer.RecoverAnswer.{RecoverAnswer}
use Rattle.hgs_stands.specs.Open.{IsOpen}
use Rattle.hgs_stands.specs.Places.{store_files}
use Rattle.hgs_stands.specs.Stands.{Stands}
use Rattle.hgs_writer.specs.Alone.{IsAnswered, IsStopOf}
use Rattle.hgs_top.specs.Orders.{IsCommandOf}
use Rattle.hgs_top.specs.Words.{Job, do_init, do_commit, do_import, do_recover, request_of_words, to_do}

-- The operations are pieces of a legal log; behind them the tree stands for what the answer says, and lists only names of paths; and wherever they are stopped it
-- stands for the repository before or is open for it, or, where what was done leads on, it stands for the next one.
pub record IsHistoryOf (t : Tree) (r : Repo) (command : Command) (outcome : Outcome) (done : List Op) : Type 0 where
  pub pieces : Pieces t r done
  pub answered : IsAnswered r (step r command) outcome (after_all done t)
  pub lists : ListsOnlyPaths (after_all done t)
  pub stops : (d : List Op) → IsStopped done d → IsStopOf t r (step r command) d

-- The log went on by such operations.
abbrev pub GoesOnAs : List Op → Option (List Op) → Tree → Repo → Command → Outcome → Type 0
GoesOnAs log new start r command outcome = (done : List Op) × (new ≡ Some (log ++ done)) × IsHistoryOf (after_all log start) r command outcome done

-- ---- a run

-- the input is told where the command stands there
abbrev pub IsTold : Job → Option (List ℕ) → Type 0
IsTold do_commit left = IsSome left
IsTold do_import left = IsSome left
IsTold job left = ⊤

-- From files that stand for a repository, and whose list of filelogs has only names of paths, nothing was done, or what a call does of
-- the command that was asked for, by some answer.
abbrev pub DoesCommand : Job → Option (List ℕ) → List Op → Option (List Op) → Tree → Type 0
DoesCommand job left log new start = (r : Repo) → Stands (after_all log start) r → ListsOnlyPaths (after_all log start)
    → (new ≡ Some log) ⊎ ((command : Command) × (outcome : Outcome) × IsCommandOf job left command × GoesOnAs log new start r command outcome)

-- From files that stand for a repository or can be taken back to it a recovery leads to such files, wherever it is stopped; and where it
-- ends well, to files that stand for it.
abbrev pub DoesRecovery : List Op → Option (List Op) → Tree → Type 0
DoesRecovery log new start = (r : Repo) → Stands (after_all log start) r ⊎ IsOpen strays (after_all log start) r
    → (answer : RecoverAnswer) × (done : List Op) × (new ≡ Some (log ++ done)) × WhereSwept answer (Stands (after_all done (after_all log start)) r)
    × ((d : List Op) → IsStopped done d → Stands (after_all d (after_all log start)) r ⊎ IsOpen strays (after_all d (after_all log start)) r)

-- none of the files stands, or each is empty, that a repository stands on beside `requires` and its filelogs; and there is no journal
abbrev pub IsBare : Tree → Type 0
IsBare t = AllByRecursion (λ path. bytes_at t path ≡ []) store_files × (t journal_path ≡ None)

-- the files of an empty repository
abbrev pub IsNew : Tree → Type 0
IsNew t = Stands t empty_repo × ListsOnlyPaths t

-- From such files, without `requires`, a new repository is made: wherever that is stopped, there is no `requires` yet, or the files are
-- those of an empty repository.
abbrev pub MakesNew : List Op → Option (List Op) → Tree → Type 0
MakesNew log new start = IsBare (after_all log start) → after_all log start requires_path ≡ None
    → (done : List Op) × (new ≡ Some (log ++ done)) × ((d : List Op) → IsStopped done d → (after_all d (after_all log start) requires_path ≡ None) ⊎ IsNew (after_all d (after_all log start)))

abbrev pub Makes : Job → Option (List ℕ) → List Op → Option (List Op) → Tree → Type 0
Makes do_init left log new start = MakesNew log new start
Makes do_recover left log new start = DoesRecovery log new start
Makes job left log new start = DoesCommand job left log new start

-- where the log is told, and of a commit or an import the input too
abbrev pub MakesHistory : List (List ℕ) → Option (List ℕ) → Option (List Op) → Option (List Op) → Tree → Type 0
MakesHistory words left old new start = IfSome old (λ log. (job : Job) → request_of_words words ≡ Ok (to_do job) → IsTold job left → Makes job left log new start)
