pub mod Passing
pub mod Shapes
pub mod Under
pub mod Cutting
