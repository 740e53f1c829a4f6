use Rattle.std.proofs.Common.{◌+◌, ◌∷◌, length}
use Rattle.squall_span.proofs.Meeting.{Meeting}
use Rattle.squall_span.proofs.common.walk_spans.Given as goal

abbrev pub invariant-loop-span : goal.invariant-loop-span
invariant-loop-span l = Meeting (l.fn.one ∷ l.fn.first) (l.fn.two ∷ l.fn.second) l.out.items (l.own ∷ l.first) (l.other ∷ l.second)

abbrev pub decreases-loop-span : goal.decreases-loop-span
decreases-loop-span l = length l.first + length l.second
