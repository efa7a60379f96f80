pub mod Loads
pub mod Keeps
