pub mod History
pub mod Once
pub mod Workers
pub mod Kept
pub mod Samples
pub mod Said
pub mod Beside
