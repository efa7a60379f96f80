pub mod GivenLemmas
pub mod KeepLemmas
pub mod TextLemmas
