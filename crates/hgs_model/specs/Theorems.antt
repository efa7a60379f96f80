-- What is proved of this crate's definitions and the crates above build on: statements with their proofs, no definitions
-- that a contract cites.
pub mod BeforeLemmas
pub mod BookmarkLemmas
pub mod CopyLemmas
pub mod CountLemmas
pub mod HeldLemmas
pub mod HistoryLemmas
pub mod ImportLemmas
pub mod ListLemmas
pub mod ListedLemmas
pub mod NameLemmas
pub mod NewChangesetLemmas
pub mod NodeLemmas
pub mod PhaseLemmas
pub mod PlacedLemmas
pub mod ReachedLemmas
pub mod RowLemmas
pub mod StepLemmas
pub mod UsedLemmas
