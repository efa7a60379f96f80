pub mod EitherLemmas
pub mod EndLemmas
pub mod GrownLemmas
pub mod IndexLemmas
pub mod LengthLemmas
pub mod PartLemmas
pub mod RestLemmas
