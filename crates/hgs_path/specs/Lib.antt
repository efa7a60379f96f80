pub mod Check
pub mod Fncache
pub mod ListText
pub mod ListedNames
pub mod Owners
pub mod StoreName
pub mod Theorems
