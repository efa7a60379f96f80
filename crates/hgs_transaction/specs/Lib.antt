pub mod Parts
pub mod Assembled
pub mod Gathered
pub mod OfTransaction
