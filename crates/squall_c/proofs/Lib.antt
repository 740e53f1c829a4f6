pub mod Steps
pub mod CutLegs
mod Routed
mod Settled
mod Wholes
mod Opened
