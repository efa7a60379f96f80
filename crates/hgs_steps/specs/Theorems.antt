-- What is proved of what a writer has loaded and the crates above build on: statements with their proofs, no definitions
-- that a contract cites.
pub mod SeparateLemmas
