pub mod Layers
pub mod Overlay
