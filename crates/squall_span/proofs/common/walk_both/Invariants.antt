use Rattle.std.proofs.Common.{◌+◌, ◌-◌, length, drop}
use Rattle.squall_span.proofs.Meeting.{Meeting}
use Rattle.squall_span.proofs.common.walk_both.Given as goal

abbrev pub invariant-loop-at : goal.invariant-loop-at
invariant-loop-at l = Meeting l.first l.second l.out.items (drop l.at l.first) (drop l.other l.second)

abbrev pub decreases-loop-at : goal.decreases-loop-at
decreases-loop-at l = (length l.first - l.at) + (length l.second - l.other)
