-- what the clauses here cite of the crates below
pub use Rattle.squall_cli_lines.specs.Lines
pub use Rattle.squall_cli_lines.specs.Script
pub use Rattle.squall_cli_words.specs.Endings
pub use Rattle.squall_protocol.specs.Steps
pub use Rattle.squall_rows.specs.RowSteps
pub use Rattle.squall_world_rows.specs.Maps
pub use Rattle.squall_cli_events.specs.EventLines
pub use Rattle.squall_cli_events.specs.AnswerText
pub use Rattle.squall_cli_events.specs.RowLines
pub mod State
pub mod Stages
pub mod Requests
pub mod Frames
pub mod LegText
pub mod Replies
pub mod Answered
pub mod Text
