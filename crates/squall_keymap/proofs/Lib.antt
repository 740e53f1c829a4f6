pub mod Ranks
pub mod Words
