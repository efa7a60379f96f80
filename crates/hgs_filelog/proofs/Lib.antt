pub mod MarkerLemmas
