-- what the clauses here cite of the crates below
pub use Rattle.squall_cli_lines.specs.Lines
pub use Rattle.squall_cli_lines.specs.Words
pub use Rattle.squall_plan.specs.Form
pub use Rattle.squall_report.specs.Facts
pub use Rattle.squall_board.specs.Listed
pub mod Forms
pub mod ReportLines
pub mod Reasons
pub mod Endings
pub mod BoardText
pub mod RouteText
