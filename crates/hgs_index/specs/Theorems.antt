-- What is proved of this crate's definitions and the crates above build on: statements with their proofs, no definitions
-- that a contract cites.
pub mod AncestorLemmas
pub mod AncestorTestLemmas
pub mod AppendLemmas
pub mod ChangeTextLemmas
pub mod EitherLemmas
pub mod EntryLemmas
pub mod EntryPartLemmas
pub mod EntryTakenLemmas
pub mod FileTextLemmas
pub mod HeaderText
pub mod HexText
pub mod InlineLemmas
pub mod ManifestText
pub mod NumberText
pub mod PlaceLemmas
pub mod RevisionLemmas
pub mod RevlogFrontLemmas
pub mod RevlogLemmas
pub mod UniqueLemmas
