-- what the clauses here cite of the crates below
pub use Rattle.squall_cli_lines.specs.Lines
pub use Rattle.squall_cli_lines.specs.Words
pub use Rattle.squall_judge.specs.Entries
pub use Rattle.squall_judge.specs.Judging
pub mod LogWords
pub mod LogLines
pub mod LogTexts
pub mod LogFiles
pub mod AuditText
pub mod Audits
pub mod Read
