-- what the clauses here cite of the crates below
pub use Rattle.squall_key.specs.Keys
pub use Rattle.squall_span.specs.Spans
pub use Rattle.squall_plan.specs.Ranges
pub use Rattle.squall_course.specs.Change
pub use Rattle.squall_board.specs.Boards
pub use Rattle.squall_status.specs.Summary
pub mod Scale
pub mod Bars
pub mod Bands
pub mod Frame
pub mod Rows
pub mod Picture
pub mod Plain
