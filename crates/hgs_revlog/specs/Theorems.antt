-- What is proved of this crate's definitions and the crates above build on: statements with their proofs, no definitions
-- that a contract cites.
pub mod AddLemmas
pub mod AddedLemmas
pub mod BehindLemmas
pub mod ApartBytes
pub mod HeldLemmas
pub mod LoadLemmas
pub mod LogLemmas
pub mod ReadLemmas
pub mod StandingLemmas
pub mod TailHeldLemmas
pub mod TailLemmas
pub mod TestLemmas
