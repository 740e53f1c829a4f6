-- what the clauses here cite of the crates below
pub use Rattle.squall_cli_lines.specs.Words
pub use Rattle.squall_cli_words.specs.Forms
pub use Rattle.squall_protocol.specs.Worlds
pub use Rattle.squall_protocol.specs.Steps
pub mod EventLines
pub mod AnswerText
pub mod RowLines
