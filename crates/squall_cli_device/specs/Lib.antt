pub mod Counts
pub mod States
