pub mod Kept
pub mod InMemory
pub mod Left
