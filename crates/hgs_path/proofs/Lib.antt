pub mod ClashLemmas
pub mod EnterLemmas
pub mod LengthLemmas
pub mod ListTextLemmas
pub mod ListedLemmas
pub mod OwnersLemmas
pub mod OneFileLemmas
