pub mod Since
pub mod Shown
pub mod Loads
pub mod Below
