-- What is proved of this crate's definitions and the crates above build on: statements with their proofs, no definitions
-- that a contract cites.
pub mod TreeFacts
pub mod Runs
pub mod Idle
pub mod Prefixes
pub mod StopLemmas
pub mod Protocol
