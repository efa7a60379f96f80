pub mod Bookmarks
pub mod Dirstate
pub mod DirstateTexts
pub mod Held
pub mod Lines
pub mod MarkTexts
pub mod Texts
pub mod Theorems
