pub mod Views
pub mod Tracks
pub mod Desks
pub mod Hands
