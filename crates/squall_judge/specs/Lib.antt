-- what the clauses here cite of the crates below
pub use Rattle.squall_protocol.specs.Worlds
pub use Rattle.squall_protocol.specs.Promises
pub use Rattle.squall_audit.specs.Logs
pub mod Entries
pub mod Turns
pub mod Found
pub mod Stages
pub mod Judging
pub mod Merges
pub mod Seen
