pub mod Answer
pub mod Found
pub mod Undoing
pub mod Clearing
pub mod Recovering
