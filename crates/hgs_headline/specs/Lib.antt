pub mod WritersLog
pub mod AddsCommitted
pub mod Again
