-- What is proved of this crate's definitions and the crates above build on: statements with their proofs, no definitions
-- that a contract cites.
pub mod BackupText
pub mod FieldLemmas
pub mod JournalText
pub mod LackLemmas
pub mod LineLemmas
pub mod OffsetLemmas
pub mod OwnNames
pub mod Touched
pub mod TreeFacts
pub mod UndoStops
pub mod Undoing
