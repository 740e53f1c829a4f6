-- what the clauses here cite of the crates below
pub use Rattle.squall_board.specs.Boards
pub use Rattle.squall_wire.specs.Limits
pub use Rattle.squall_wire.specs.Messages
pub use Rattle.squall_wire.specs.Reading
pub use Rattle.squall_wire.specs.Hearing
pub use Rattle.squall_wire.specs.DigestValue
pub use Rattle.squall_delta.specs.Pieces
pub use Rattle.squall_delta.specs.Hashes
pub use Rattle.squall_delta.specs.Repairs
pub use Rattle.squall_c_values.specs.Rooms
pub mod Queues
pub mod BoardFrames
pub mod WholeFrames
pub mod Joined
pub mod JoinedLaws
pub mod FrameStatus
