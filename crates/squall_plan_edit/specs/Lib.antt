-- what the clauses here cite of the crates below
pub use Rattle.squall_key.specs.Keys
pub use Rattle.squall_span.specs.Spans
pub use Rattle.squall_plan.specs.Ranges
pub use Rattle.squall_plan.specs.Arranged
pub use Rattle.squall_course.specs.Moves
pub mod Moved
pub mod Legs
pub mod Faults
pub mod Shares
pub mod Apart
