mod Escapes
pub mod Columns
pub mod Ticks
pub mod Shares
pub mod Swatches
mod Texts
