pub mod Passing
pub mod Spanning
