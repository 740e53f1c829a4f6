use Rattle.std.proofs.Common.{◌≡◌, drop}
use Rattle.squall_board.specs.Boards.{IsBoard, board_join}
use Rattle.squall_delta.specs.Pieces.{joined_boards}
use Rattle.squall_c_frames.specs.Joined.{deltas_of}
use Rattle.squall_c_frames.proofs.messages.joined.Given as goal

-- what is joined and what is to come are together what all messages tell
abbrev pub invariant-loop-message : goal.invariant-loop-message
invariant-loop-message l = IsBoard l.board × (board_join l.board (joined_boards (deltas_of (drop l.message-index l.messages))) ≡ joined_boards (deltas_of l.messages))
