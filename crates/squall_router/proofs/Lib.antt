pub mod Issued
pub mod Already
pub mod Newer
pub mod Absorbed
pub mod Taken
pub mod Cut
pub mod Alike
mod Turned
