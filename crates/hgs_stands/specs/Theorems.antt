-- What is proved of this crate's definitions and the crates above build on: statements with their proofs, no definitions
-- that a contract cites.
pub mod ApartLemmas
pub mod Basics
pub mod Below
pub mod EmptyLemmas
pub mod FilesLemmas
pub mod FormLemmas
pub mod ListedLemmas
pub mod LooseLemmas
pub mod Lower
pub mod ManifestLemmas
pub mod PhaseLemmas
pub mod ShowsLemmas
pub mod StayLemmas
