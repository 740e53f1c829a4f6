pub mod Front
pub mod Begun
pub mod Watching
pub mod BarLines
pub mod Drawing
pub mod Shown
pub mod News
pub mod Framed
