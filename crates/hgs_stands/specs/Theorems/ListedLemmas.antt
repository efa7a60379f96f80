-- Revisions by their numbers.
pub use Rattle.hgs_index.specs.Theorems.PlaceLemmas.{among-at, place-same}
pub use Rattle.hgs_model.specs.Theorems.ListedLemmas.{front-below, length-nodes, node_at-front, number-text, rev-same, slice_get-front, slice_get-last, text_at-front, there}
