pub mod HeaderLemmas
pub mod NumberLemmas
pub mod PrintLemmas
