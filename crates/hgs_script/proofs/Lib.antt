pub mod FrontLemmas
pub mod LineLemmas
pub mod ReadLemmas
pub mod RunLemmas
pub mod ScriptBack
pub mod ScriptFound
pub mod TaskLemmas
pub mod TextLemmas
