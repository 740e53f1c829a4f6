-- what the clauses here cite of the crates below
pub use Rattle.squall_report.specs.Issues
pub use Rattle.squall_course.specs.Change
pub use Rattle.squall_board.specs.Boards
pub mod News
pub mod Letters
pub mod Inbox
pub mod Ends
