-- One event more.
use Rattle.std.proofs.Common.{ℕ, List, [], ◌∷◌, ◌++◌, refl, sym, ◌∙◌, ap, subst, append_assoc, append-nil}
use Rattle.hgs_schedule.specs.declared.event.Event.{Event}
use Rattle.hgs_world.specs.Plays.{Plays}
use Rattle.hgs_world.specs.World.{Scene, Happens}

pub plays-more : (events : List Event) (event : Event) (old mid new : Scene) (text more : List ℕ) → Plays events old mid text → Happens event mid new more → Plays (events ++ event ∷ []) old new (text ++ more)
plays-more [] event old mid new text more h k =
    let P : Scene → Type 0 = λ s. Happens event s new more in
    (new, more, [], subst P h.0 k, (refl, refl), ap (λ t. t ++ more) h.1 ∙ sym (append-nil more))
plays-more (first ∷ events) event old mid new text more h k =
    (h.0, h.1, h.2 ++ more, h.3, plays-more events event h.0 mid new h.2 more h.4 k, ap (λ t. t ++ more) h.5 ∙ append_assoc h.1 h.2 more)
