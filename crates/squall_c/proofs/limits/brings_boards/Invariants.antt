use Rattle.std.proofs.Common.{◌≡◌, drop}
use Rattle.squall_c_frames.specs.Joined.{deltas_of}
use Rattle.squall_c.proofs.limits.brings_boards.Given as goal

-- the messages to come bring all boards
abbrev pub invariant-loop-message : goal.invariant-loop-message
invariant-loop-message l = deltas_of (drop l.message-index l.messages) ≡ deltas_of l.messages
