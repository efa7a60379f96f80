-- The rows of a changeset.
pub use Rattle.hgs_model.specs.Theorems.RowLemmas.{rows-good}
