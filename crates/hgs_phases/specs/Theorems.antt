-- What is proved of this crate's definitions and the crates above build on: statements with their proofs, no definitions
-- that a contract cites.
pub mod AdvanceLemmas
pub mod AloneLemmas
pub mod PhaseLemmas
pub mod RiseLemmas
pub mod RootTextLemmas
pub mod WrittenLemmas
