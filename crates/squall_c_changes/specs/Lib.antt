-- what the clauses here cite of the crates below
pub use Rattle.squall_span.specs.Spans
pub use Rattle.squall_plan.specs.Ranges
pub use Rattle.squall_c_values.specs.Rooms
pub use Rattle.squall_c_values.specs.Values
pub mod Changes
pub mod Walks
