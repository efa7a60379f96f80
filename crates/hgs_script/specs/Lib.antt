pub mod Read
pub mod Result
pub mod Script
