pub mod Clashes
pub mod Done
