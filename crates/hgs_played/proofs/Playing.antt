-- One event after another.
use Rattle.std.proofs.Common.{ℕ, List, [], ◌∷◌, sym, subst}
use Rattle.std.specs.List.{AllByRecursion}
use Rattle.hgs_files.specs.declared.op.Op.{Op}
use Rattle.hgs_schedule.specs.Schedule.{CanCome}
use Rattle.hgs_schedule.specs.declared.event.Event.{Event}
use Rattle.hgs_world.specs.Follows.{Keeps}
use Rattle.hgs_world.specs.Plays.{Plays}
use Rattle.hgs_world.specs.World.{Happens, Scene}
use Rattle.hgs_played.specs.Loads.{ReadersSee}
use Rattle.hgs_played.specs.Since.{Beginning, GoesOn, KeepsLog}

module _ (commands : (readers : ℕ) (event : Event) (old new : Scene) (text : List ℕ) → CanCome readers event → Keeps old → Happens event old new text → Keeps new)
    (logs : (readers : ℕ) (event : Event) (old new : Scene) (text : List ℕ) (b : Beginning) (log : List Op) → CanCome readers event → Keeps old → KeepsLog old b log → Happens event old new text → (c : Beginning) × (more : List Op) × GoesOn event new b log c more × KeepsLog new c more)
    (sees : (event : Event) (old new : Scene) (text : List ℕ) (b c : Beginning) (log more : List Op) → KeepsLog old b log → ReadersSee old b log → Happens event old new text → GoesOn event new b log c more → ReadersSee new c more) where
  pub plays_keep : (readers : ℕ) (events : List Event) (old new : Scene) (text : List ℕ) (b : Beginning) (log : List Op) → AllByRecursion (CanCome readers) events → Keeps old → KeepsLog old b log → ReadersSee old b log → Plays events old new text
      → (d : Beginning) × (more : List Op) × KeepsLog new d more × ReadersSee new d more
  plays_keep readers [] old new text b log can keeps k see h = (b, log, subst (λ (s : Scene). KeepsLog s b log) (sym h.0) k, subst (λ (s : Scene). ReadersSee s b log) (sym h.0) see)
  plays_keep readers (event ∷ events) old new text b log can keeps k see (between, one, rest, happens, plays, whole) =
      let now = logs readers event old between one b log can.0 keeps k happens in
      plays_keep readers events between new rest now.0 now.1 can.1 (commands readers event old between one can.0 keeps happens) now.3 (sees event old between one b now.0 log now.1 k see happens now.2) plays
