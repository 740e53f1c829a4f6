-- what the clauses here cite of the crates below
pub use Rattle.squall_course.specs.Change
pub use Rattle.squall_board.specs.Boards
pub use Rattle.squall_cluster_inbox.specs.Letters
pub use Rattle.squall_cluster.specs.Joined
pub use Rattle.squall_protocol.specs.Worlds
pub use Rattle.squall_protocol.specs.Steps
pub mod Desks
