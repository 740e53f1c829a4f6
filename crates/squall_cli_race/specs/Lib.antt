-- what the clauses here cite of the crates below
pub use Rattle.squall_cli_lines.specs.Lines
pub use Rattle.squall_cli_words.specs.Reasons
pub use Rattle.squall_cli_words.specs.BoardText
pub use Rattle.squall_board.specs.Route
pub use Rattle.squall_cluster.specs.Race
pub mod RaceLines
pub mod RaceFiles
pub mod RaceText
pub mod Taken
