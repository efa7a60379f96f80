pub mod Below
pub mod RunLemmas
pub mod CourseLemmas
pub mod CallLemmas
pub mod EndLemmas
