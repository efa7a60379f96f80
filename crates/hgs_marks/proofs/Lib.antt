pub mod CopyLemmas
pub mod DirstateFound
pub mod DirstateTextLemmas
pub mod LineLemmas
pub mod MapLemmas
pub mod MarkLemmas
pub mod MarkTextLemmas
