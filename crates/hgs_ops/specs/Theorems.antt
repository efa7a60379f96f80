-- What is proved of this crate's definitions and the crates above build on: statements with their proofs, no definitions
-- that a contract cites.
pub mod Apart
pub mod Beside
pub mod Clear
pub mod CommitLemmas
pub mod CommitTree
pub mod FileGrowth
pub mod GrowLemmas
pub mod ImportTree
pub mod LinkLemmas
pub mod NameLines
pub mod NodeLemmas
pub mod OnceLemmas
pub mod Replace
pub mod RootsLemmas
pub mod RootsStay
pub mod SizeLemmas
pub mod SmallLemmas
pub mod SplitLemmas
pub mod StandsCommit
pub mod StepwiseLemmas
pub mod Touch
