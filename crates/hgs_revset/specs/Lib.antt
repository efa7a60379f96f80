pub mod Fault
pub mod Grammar
pub mod Members
pub mod Postfix
pub mod Printed
pub mod Read
pub mod Stored
pub mod Text
