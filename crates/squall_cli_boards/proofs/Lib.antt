pub mod Heard
pub mod Parts
pub mod Refused
pub mod Routed
mod Runs
