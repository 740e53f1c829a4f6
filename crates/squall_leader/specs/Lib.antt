-- what the clauses here cite of the crates below
pub use Rattle.squall_key.specs.Keys
pub use Rattle.squall_span.specs.Spans
pub use Rattle.squall_plan.specs.Ranges
pub use Rattle.squall_plan.specs.Arranged
pub use Rattle.squall_course.specs.Change
pub use Rattle.squall_course.specs.Subplans
pub use Rattle.squall_course.specs.Moves
pub use Rattle.squall_report.specs.Facts
pub use Rattle.squall_report.specs.Told
pub use Rattle.squall_board.specs.Boards
pub use Rattle.squall_protocol.specs.Known
pub mod Leaders
pub mod Left
pub mod Leaving
pub mod Waiting
