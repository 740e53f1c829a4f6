-- what the clauses here cite of the crates below
pub use Rattle.squall_span.specs.Spans
pub use Rattle.squall_board.specs.Takes
pub use Rattle.squall_part.specs.Parts
pub use Rattle.squall_part.specs.Giving
pub use Rattle.squall_part.specs.Loading
pub use Rattle.squall_part.specs.Serving
pub use Rattle.squall_nodes.specs.Standing
pub use Rattle.squall_nodes.specs.PartCalls
pub use Rattle.squall_rows.specs.Rows
pub use Rattle.squall_rows.specs.RowSteps
pub mod Acts
pub mod Memory
pub mod Stores
pub mod Systems
