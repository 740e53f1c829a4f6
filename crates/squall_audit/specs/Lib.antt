-- what the clauses here cite of the crates below
pub use Rattle.squall_report.specs.Queries
pub use Rattle.squall_board.specs.BoardQueries
pub use Rattle.squall_protocol.specs.Worlds
pub use Rattle.squall_protocol.specs.Steps
pub use Rattle.squall_protocol.specs.Promises
pub mod Apart
pub mod Lines
pub mod Merging
pub mod Logs
