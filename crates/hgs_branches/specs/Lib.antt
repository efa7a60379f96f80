pub mod Read
pub mod Rest
pub mod Theorems
pub mod Windows
