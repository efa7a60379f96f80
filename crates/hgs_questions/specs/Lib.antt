pub mod Said
pub mod Questions
pub mod Asked
