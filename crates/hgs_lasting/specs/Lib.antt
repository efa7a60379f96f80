pub mod Lives
pub mod Below
