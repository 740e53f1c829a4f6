-- what the clauses here cite of the crates below
pub use Rattle.squall_key.specs.Keys
pub use Rattle.squall_span.specs.Spans
pub use Rattle.squall_plan.specs.Ranges
pub mod Subplans
pub mod Change
pub mod Moves
pub mod Statuses
pub mod Faults
pub mod Links
pub mod Steps
