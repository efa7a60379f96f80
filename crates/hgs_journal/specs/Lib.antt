pub mod Names
pub mod Texts
pub mod Read
pub mod Theorems
pub mod Undo
pub mod Covers
pub mod Begun
pub mod Samples
