use Rattle.std.proofs.Common.{◌≡◌, ◌++◌, length}
use Rattle.std.specs.List.{AllByRecursion}
use Rattle.squall_wire.specs.Messages.{spell_all, IsMessage}
use Rattle.squall_wire.proofs.feed.hear.Given as goal

-- the bytes begin with the frames of the messages
abbrev pub invariant-loop-message : goal.invariant-loop-message
invariant-loop-message l = AllByRecursion IsMessage l.messages.items × (l.bytes ≡ spell_all l.messages.items ++ l.rest)

abbrev pub decreases-loop-message : goal.decreases-loop-message
decreases-loop-message l = length l.rest
