pub mod Front
pub mod Import
pub mod Read
pub mod Record
pub mod View
