pub mod OwnedLoops
pub mod GatherLemmas
pub mod PlanLemmas
pub mod TransactionLemmas
pub mod StoreLemmas
