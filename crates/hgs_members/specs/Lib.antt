pub mod Bits
pub mod Members
pub mod Passes
pub mod Story
pub mod Text
