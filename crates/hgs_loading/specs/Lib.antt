pub mod Found
pub mod Logs
pub mod Parent
pub mod Small
pub mod Store
pub mod Theorems
