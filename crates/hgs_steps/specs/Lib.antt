pub mod Below
pub mod Fault
pub mod Loaded
pub mod Parents
pub mod Planned
pub mod Steps
pub mod Theorems
