pub mod Least
pub mod First
pub mod Kept
pub mod Leaving
