pub mod Outputs
pub mod Sent
pub mod TaskLemmas
pub mod Telling
