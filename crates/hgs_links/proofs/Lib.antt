pub mod LinkLemmas
pub mod Cells
pub mod Counting
pub mod Ending
