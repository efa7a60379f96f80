pub mod Built
pub mod CanBeStored
pub mod Limits
pub mod Samples
