mod Merged
pub mod Lists
pub mod Remains
