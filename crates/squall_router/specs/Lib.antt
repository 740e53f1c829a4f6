-- what the clauses here cite of the crates below
pub use Rattle.squall_key.specs.Keys
pub use Rattle.squall_span.specs.Spans
pub use Rattle.squall_plan.specs.Ranges
pub use Rattle.squall_course.specs.Change
pub use Rattle.squall_report.specs.Told
pub use Rattle.squall_board.specs.Boards
pub use Rattle.squall_board.specs.Newest
pub use Rattle.squall_board.specs.Route
pub use Rattle.squall_board.specs.CourseRoute
pub use Rattle.squall_table.specs.Tables
pub use Rattle.squall_status.specs.Tallies
pub mod Routers
