pub mod Answers
pub mod Below
pub mod Found
pub mod Limits
pub mod Samples
pub mod Shown
