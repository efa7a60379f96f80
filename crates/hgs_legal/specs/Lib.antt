pub mod LegalLog
pub mod Pieces
pub mod Numbers
pub mod Recovers
pub mod Samples
pub mod ListsPaths
pub mod NothingClashes
pub mod Theorems
