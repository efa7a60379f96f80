pub mod Added
pub mod Inline
pub mod Looked
pub mod Parts
pub mod Refusal
pub mod Report
pub mod Task
pub mod Walk
