pub mod HoldsLemmas
pub mod PrintedLemmas
pub mod StoryLemmas
pub mod WholeLemmas
