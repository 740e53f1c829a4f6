-- what the clauses here cite of the crates below
pub use Rattle.squall_key.specs.Keys
pub use Rattle.squall_wire.specs.Messages
pub use Rattle.squall_replay.specs.Calls
pub use Rattle.squall_store.specs.Stores
pub use Rattle.squall_store.specs.Systems
pub use Rattle.squall_cli_device.specs.States
pub use Rattle.squall_log.specs.Entries
pub mod Records
pub mod RecordLaws
pub mod Steps
pub mod Restarts
