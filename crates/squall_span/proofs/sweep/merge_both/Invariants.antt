use Rattle.std.proofs.Common.{◌+◌, ◌∷◌, length}
use Rattle.squall_span.proofs.Merging.{Merging}
use Rattle.squall_span.proofs.sweep.merge_both.Given as goal

abbrev pub invariant-loop-out : goal.invariant-loop-out
invariant-loop-out l = Merging (l.fn.one ∷ l.fn.first) (l.fn.two ∷ l.fn.second) l.out.items (l.a ∷ l.first) (l.b ∷ l.second)

abbrev pub decreases-loop-out : goal.decreases-loop-out
decreases-loop-out l = length l.first + length l.second
