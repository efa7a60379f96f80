pub mod Calls
pub mod Noted
pub mod Rules
pub mod Desk
pub mod Jobs
pub mod Session
pub mod Theorems
