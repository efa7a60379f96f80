pub mod Read
pub mod Schedule
pub mod Theorems
