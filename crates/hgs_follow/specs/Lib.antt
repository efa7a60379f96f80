pub mod Asked
pub mod Follow
pub mod Followed
pub mod Lines
pub mod Samples
pub mod Search
pub mod Source
pub mod Stops
