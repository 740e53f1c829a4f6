pub mod Bytes
pub mod LineLemmas
pub mod RunningLemmas
pub mod Turns
pub mod Outcomes
pub mod WordLemmas
pub mod Functions
