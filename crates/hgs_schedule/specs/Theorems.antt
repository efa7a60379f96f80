-- What is proved of inputs that have records among their lines, and that the scripts of the crate above are read by too: statements with
-- their proofs, no definitions that a contract cites.
pub mod FrontLemmas
pub mod LineLemmas
pub mod ReadLemmas
pub mod WholeLemmas
