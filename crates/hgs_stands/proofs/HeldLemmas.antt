-- What the revisions say of each changeset.
pub use Rattle.hgs_model.specs.Held.{IsHeld}
pub use Rattle.hgs_model.specs.Theorems.HeldLemmas.{count, held}
