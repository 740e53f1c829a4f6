-- what the clauses here cite of the crates below
pub use Rattle.squall_protocol.specs.Worlds
pub use Rattle.squall_protocol.specs.Knowledge
pub use Rattle.squall_protocol.specs.Steps
pub use Rattle.squall_protocol.specs.Promises
pub mod Nets
pub mod Acts
pub mod Naming
pub mod Views
pub mod Events
pub mod Runs
