-- what the clauses here cite of the crates below
pub use Rattle.squall_key.specs.Keys
pub use Rattle.squall_course.specs.Change
pub use Rattle.squall_board.specs.Boards
pub use Rattle.squall_board.specs.CourseRoute
pub use Rattle.squall_router.specs.Routers
pub use Rattle.squall_cluster_inbox.specs.Letters
pub mod Track
pub mod Start
pub mod Desk
pub mod Hand
pub mod Writers
pub mod Seats
