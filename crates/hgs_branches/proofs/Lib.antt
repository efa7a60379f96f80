pub mod HoldLemmas
pub mod ReadLemmas
pub mod SumLemmas
pub mod WindowLemmas
