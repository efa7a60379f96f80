pub mod Course
pub mod Seen
pub mod Answered
pub mod Says
pub mod Moments
pub mod Samples
