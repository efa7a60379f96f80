pub mod Extras
pub mod Heads
pub mod Kept
pub mod Reached
pub mod Taken
pub mod Text
pub mod Tracked
