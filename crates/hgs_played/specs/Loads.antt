-- What the readers of a play have loaded.
use Rattle.std.specs.Prelude.{◌≡◌, ℕ, List, Option, Some, None, Result, Ok, slice_get}
use Rattle.hgs_bytes.specs.Bytes.{IsPrefixOf}
use Rattle.hgs_files.specs.declared.op.Op.{Op}
use Rattle.hgs_files.specs.Tree.{Tree}
use Rattle.hgs_load.specs.declared.answer.ReadAnswer.{ReadAnswer}
use Rattle.hgs_load.specs.Asks.{Asks, MayAnswer}
use Rattle.hgs_load.specs.Open.{open_asks}
use Rattle.hgs_load.specs.Refresh.{refresh_asks}
use Rattle.hgs_load.specs.View.{View}
use Rattle.hgs_world.specs.Questions.{Sight, load_asks}
use Rattle.hgs_world.specs.World.{Scene}
use Rattle.hgs_played.specs.Since.{Beginning, tree_at}

-- A view was loaded between these two moments of a log: opened there, or refreshed there from a view that was loaded before. Each read of a
-- load is answered from the tree of its own moment, and none from one before that of the read before it.
pub data IsLoaded (start : Tree) : List Op → List Op → View → Type 0 where
  opened : (first last : List Op) (view : View) → MayAnswer start first open_asks last (Ok view) → IsLoaded start first last view
  refreshed : (began ended first last : List Op) (old view : View) → IsLoaded start began ended old → IsPrefixOf ended first → MayAnswer start first (refresh_asks old) last (Ok view) → IsLoaded start first last view

-- What a reader has loaded last was loaded up to this moment, if it has loaded something.
abbrev pub HasLoaded : Tree → List Op → Option View → Type 0
HasLoaded start ended None = Unit {0}
HasLoaded start ended (Some view) = (began : List Op) × IsLoaded start began ended view

-- This question is what is left of a load that began at one moment, its reads answered up to another.
abbrev pub IsLeftOf : Tree → List Op → List Op → Asks (Result View ReadAnswer) → Asks (Result View ReadAnswer) → Type 0
IsLeftOf start first now whole left = (last : List Op) (y : Result View ReadAnswer) → MayAnswer start now left last y → MayAnswer start first whole last y

-- a load under way, behind the last load
abbrev pub IsLoading : Tree → List Op → List Op → Option View → Option (Asks (Result View ReadAnswer)) → Type 0
IsLoading start ended log last None = Unit {0}
IsLoading start ended log last (Some left) = (first : List Op) × (now : List Op) × IsPrefixOf ended first × IsPrefixOf now log × IsLeftOf start first now (load_asks last) left

-- A reader at this moment of a log: what it has loaded, and the load that is under way, have their reads at moments of that log.
pub record SeesLog (start : Tree) (log : List Op) (s : Sight) : Type 0 where
  pub ended : List Op
  pub before : IsPrefixOf ended log
  pub loaded : HasLoaded start ended s.last
  pub loading : IsLoading start ended log s.last s.load

-- so it is of each reader
abbrev pub SeeLog : Tree → List Op → List Sight → Type 0
SeeLog start log readers = (number : ℕ) (s : Sight) → slice_get readers number ≡ Some s → SeesLog start log s

-- each reader of a play sees the log that the play is in
abbrev pub ReadersSee : Scene → Beginning → List Op → Type 0
ReadersSee s b log = SeeLog (tree_at s.start b) log s.readers
