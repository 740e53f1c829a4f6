pub mod Places
pub mod Searching
pub mod Remains
pub mod Drafting
