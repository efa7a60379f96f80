pub mod Adds
pub mod Lines
pub mod Lists
pub mod Logs
pub mod Names
pub mod Parts
pub mod Store
pub mod Texts
