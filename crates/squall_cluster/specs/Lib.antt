-- what the clauses here cite of the crates below
pub use Rattle.squall_course.specs.Change
pub use Rattle.squall_report.specs.Told
pub use Rattle.squall_board.specs.Boards
pub use Rattle.squall_board.specs.CourseRoute
pub use Rattle.squall_router.specs.Routers
pub use Rattle.squall_cluster_inbox.specs.Letters
pub use Rattle.squall_cluster_inbox.specs.Inbox
pub use Rattle.squall_cluster_inbox.specs.Ends
pub use Rattle.squall_cluster_desk.specs.Seats
pub use Rattle.squall_cluster_desk.specs.Start
pub mod Faults
pub mod Owners
pub mod Joined
pub mod Race
pub mod RaceFaults
pub mod CloseFaults
