pub mod Reading
pub mod Disk
