-- what the clauses here cite of the crates below
pub use Rattle.squall_rows.specs.RowSteps
pub use Rattle.squall_rows.specs.OneMap
pub use Rattle.squall_audit.specs.Logs
pub mod Clients
pub mod Audits
