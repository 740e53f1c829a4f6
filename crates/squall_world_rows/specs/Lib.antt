-- what the clauses here cite of the crates below
pub use Rattle.squall_protocol.specs.Worlds
pub use Rattle.squall_protocol.specs.Steps
pub use Rattle.squall_protocol.specs.Promises
pub use Rattle.squall_rows.specs.Rows
pub use Rattle.squall_rows.specs.RowSteps
pub use Rattle.squall_rows.specs.OneMap
pub use Rattle.squall_store.specs.Memory
pub use Rattle.squall_world.specs.Views
pub mod Seen
pub mod Maps
pub mod Runs
