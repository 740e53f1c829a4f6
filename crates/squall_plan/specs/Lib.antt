-- what the clauses here cite of the crates below
pub use Rattle.squall_key.specs.Keys
pub use Rattle.squall_span.specs.Spans
pub mod Ranges
pub mod PlanLaws
pub mod Equal
pub mod EqualLaws
pub mod Arranged
pub mod Form
pub mod PlanText
pub mod Faults
pub mod Shown
