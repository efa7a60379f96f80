pub mod FrontLemmas
pub mod ModelLemmas
pub mod PrintLemmas
pub mod RetractLemmas
pub mod RootsLemmas
