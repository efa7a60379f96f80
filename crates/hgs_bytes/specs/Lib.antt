pub mod Answer
pub mod Bytes
pub mod Path
pub mod Text
pub mod Theorems
