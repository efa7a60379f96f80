-- Events that happen one after another.
use Rattle.std.specs.Prelude.{◌≡◌, ℕ, List, [], ◌∷◌, ◌++◌}
use Rattle.hgs_schedule.specs.declared.event.Event.{Event}
use Rattle.hgs_schedule.specs.declared.event.Schedule.{Schedule}
use Rattle.hgs_world.specs.World.{Scene, Happens, IsFirst}

-- From the old scene on the events happen, one after another and each once, and what they write is this text, joined in their order.
abbrev pub Plays : List Event → Scene → Scene → List ℕ → Type 0
Plays [] old new text = (new ≡ old) × (text ≡ [])
Plays (event ∷ events) old new text =
    (between : Scene) × (first : List ℕ) × (rest : List ℕ) × Happens event old between first × Plays events between new rest × (text ≡ first ++ rest)

-- What the events of a schedule write, from a new repository on, up to these, which have not happened yet.
pub record PlaysTo (s : Schedule) (left : List Event) (text : List ℕ) : Type 0 where
  pub done : List Event
  pub whole : s.events ≡ done ++ left
  pub first : Scene
  pub last : Scene
  pub is_first : IsFirst s.readers first
  pub plays : Plays done first last text
