pub mod Links
pub mod Fronts
pub mod Samples
