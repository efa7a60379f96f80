pub mod HeldLemmas
pub mod PrintLemmas
pub mod PushLemmas
pub mod ReadLemmas
