pub mod Fronts
pub mod Adding
pub mod CallLemmas
pub mod JobLemmas
pub mod EndLemmas
pub mod BeginLemmas
