pub mod Ends
pub mod Joined
mod Draining
mod Races
mod Unions
