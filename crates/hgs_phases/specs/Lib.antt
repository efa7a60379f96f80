pub mod Changelog
pub mod Moves
pub mod Phases
pub mod Printed
pub mod Roots
pub mod Theorems
