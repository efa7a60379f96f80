-- The log of a play, since it began or was last recovered.
use Rattle.std.specs.Prelude.{◌≡◌, ◌⊎◌, ℕ, List, [], ◌∷◌, ◌++◌, Bool, Option, Some, None, if◌then◌else◌, map}
use Rattle.hgs_files.specs.declared.op.Op.{Op}
use Rattle.hgs_files.specs.Tree.{Tree, after_all}
use Rattle.hgs_legal.specs.LegalLog.{IsRun, State, Turn}
use Rattle.hgs_legal.specs.ListsPaths.{ListsPaths}
use Rattle.hgs_machine.specs.Asked.{asked}
use Rattle.hgs_machine.specs.Fed.{is_published}
use Rattle.hgs_machine.specs.declared.ended.Published.TheVariants.{Unknown}
use Rattle.hgs_machine.specs.declared.ended.Short.{Short}
use Rattle.hgs_machine.specs.declared.ended.Short.TheVariants.{Unfinished}
use Rattle.hgs_model.specs.Repo.{Repo, empty_repo}
use Rattle.hgs_model.specs.Valid.{IsValid}
use Rattle.hgs_model.specs.declared.command.Command.{Command}
use Rattle.hgs_stands.specs.Stands.{IsClean}
use Rattle.hgs_schedule.specs.declared.event.Event.{Event}
use Rattle.hgs_schedule.specs.declared.event.Event.TheVariants.{Recover}
use Rattle.hgs_headline.specs.WritersLog.{WritersLog}
use Rattle.hgs_writer.specs.Turns.{IsAtRest}
use Rattle.hgs_world.specs.Book.{Commands}
use Rattle.hgs_world.specs.Follows.{Replays}
use Rattle.hgs_world.specs.Moments.{HasCome}
use Rattle.hgs_world.specs.Working.{IsSizing}
use Rattle.hgs_world.specs.World.{Scene, forgotten}
use Rattle.hgs_world.specs.declared.working.Working.{Working}

-- ---- where a log begins

-- What a play had done when the log began that it is in now, the commands that it had published, and the repository of its files.
pub record Beginning : Type 0 where
  pub earlier : List Op
  pub older : List Command
  pub first : Repo

-- the tree there, of a play that began at this tree
abbrev pub tree_at : Tree → Beginning → Tree
tree_at start b = after_all b.earlier start

-- That tree is clean for that repository, to which the commands lead, replayed from the empty one on; and its list of filelogs has only
-- names of paths.
pub record Begins (start : Tree) (b : Beginning) : Type 0 where
  pub clean : IsClean (tree_at start b) b.first
  pub lists : ListsPaths (tree_at start b) b.first
  pub leads : Replays empty_repo b.older b.first

-- ---- what it has published

abbrev pub commands_of : List Turn → List Command
commands_of turns = map (λ (x : Turn). x.command) turns

-- This log leads from there to a state, and published are the commands from before and behind them those of its transactions, in
-- their order.
pub record ComesTo (start : Tree) (b : Beginning) (log : List Op) (commands : List Command) (s : State) : Type 0 where
  pub run : IsRun (tree_at start b) b.first log s
  pub published : commands ≡ b.older ++ commands_of s.published

-- The log since then is one that writers make from there, and it has published what the play has published.
pub record IsPlayed (s : Scene) (b : Beginning) (h : WritersLog) : Type 0 where
  pub start : h.start ≡ tree_at s.start b
  pub first : h.first ≡ b.first
  pub whole : s.log ≡ b.earlier ++ h.log
  pub published : s.book.published ≡ b.older ++ commands_of h.last.published

-- ---- from one event to the next

-- No writer is at work.
pub record Rests (start : Tree) (b : Beginning) (log : List Op) (book : Commands) : Type 0 where
  pub state : State
  pub comes : ComesTo start b log book.published state
  pub left : Option (List Op)
  pub at_rest : IsAtRest left state

-- how it ends says whether it was published
abbrev pub IsSure : Short → Type 0
IsSure (Unfinished Unknown) = ⊥
IsSure outcome = Unit {0}

abbrev pub one_if : Bool → Command → List Command
one_if published command = if published then command ∷ [] else []

abbrev pub none_if : Bool → Command → Option Command
none_if published command = if published then None else Some command

-- A writer is at work. It began where no writer was, and its command is published or is still pending; it asks for no size, and it is never
-- in doubt whether it has published.
pub record Works (start : Tree) (b : Beginning) (log : List Op) (w : Working) (book : Commands) : Type 0 where
  pub before : List Op
  pub older : List Command
  pub state : State
  pub comes : ComesTo start b before older state
  pub at_rest : IsAtRest None state
  pub command : Command
  pub valid : IsValid command
  pub done : List Op
  pub come : HasCome command state.files w done
  pub whole : log ≡ before ++ done
  pub sure : IsSure w.machine.outcome
  pub sized : IsSizing (asked w.machine) → ⊥
  pub published : book.published ≡ older ++ one_if (is_published w.machine) command
  pub pending : book.pending ≡ none_if (is_published w.machine) command

abbrev pub LogsAt : Tree → Beginning → List Op → Option Working → Commands → Type 0
LogsAt start b log None book = Rests start b log book
LogsAt start b log (Some w) book = Works start b log w book

-- a play with the log that it is in
pub record KeepsLog (s : Scene) (b : Beginning) (log : List Op) : Type 0 where
  pub begins : Begins s.start b
  pub whole : s.log ≡ b.earlier ++ log
  pub logs : LogsAt s.start b log s.writer s.book

-- The log that an event leaves goes on from the one before; or the event is a recovery, and a new one begins, with readers that have loaded
-- nothing.
abbrev pub GoesOn : Event → Scene → Beginning → List Op → Beginning → List Op → Type 0
GoesOn event new b log c more =
    ((c ≡ b) × ((done : List Op) × (more ≡ log ++ done))) ⊎ ((event ≡ Recover) × (more ≡ []) × ((count : ℕ) × (new.readers ≡ forgotten count)))
