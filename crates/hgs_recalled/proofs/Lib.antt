pub mod AlikeLemmas
pub mod AskedLemmas
pub mod CallLemmas
