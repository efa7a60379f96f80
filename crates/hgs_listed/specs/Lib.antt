pub mod Listed
pub mod Samples
