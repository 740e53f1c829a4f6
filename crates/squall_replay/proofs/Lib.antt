pub mod Edits
mod Same
mod Alike
mod Grown
mod Ran
