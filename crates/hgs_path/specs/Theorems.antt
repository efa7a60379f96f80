-- What is proved of this crate's definitions and the crates above build on: statements with their proofs, no definitions
-- that a contract cites.
pub mod AddedLemmas
pub mod ApartLemmas
pub mod CheckLemmas
pub mod FncacheLemmas
pub mod PartLemmas
pub mod ReadNamesLemmas
pub mod ReadableLemmas
pub mod ShapeLemmas
