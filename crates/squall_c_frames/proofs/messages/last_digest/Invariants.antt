use Rattle.std.proofs.Common.{◌≡◌, None}
use Rattle.std.specs.Prelude.{vec_len}
use Rattle.squall_c_frames.specs.Joined.{last_digest}
use Rattle.squall_c_frames.proofs.messages.last_digest.Given as goal

-- no digest was taken off
abbrev pub invariant-loop-message : goal.invariant-loop-message
invariant-loop-message l = last_digest None l.messages.items ≡ last_digest None l.fn.messages.items

abbrev pub decreases-loop-message : goal.decreases-loop-message
decreases-loop-message l = vec_len l.messages
