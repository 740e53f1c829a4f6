pub mod Lines
pub mod Script
pub mod Faults
pub mod Heeding
pub mod Running
pub mod Words
pub use Rattle.squall_cli_device.specs.Counts
pub use Rattle.squall_cli_device.specs.States
