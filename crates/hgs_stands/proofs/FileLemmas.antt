-- The files of a changeset.
pub use Rattle.hgs_model.specs.Held.{IsPlacedIn}
pub use Rattle.hgs_model.specs.Theorems.PlacedLemmas.{all-placed-front, files-placed}
