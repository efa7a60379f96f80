-- What is proved of this crate's definitions and the crates above build on: statements with their proofs, no definitions
-- that a contract cites.
pub mod AskLemmas
pub mod FormLemmas
pub mod GivenLemmas
pub mod OpenedLemmas
pub mod PartLemmas
pub mod RestLemmas
pub mod TailLemmas
