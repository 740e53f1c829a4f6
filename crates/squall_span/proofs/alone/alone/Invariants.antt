use Rattle.std.proofs.Common.{◌+◌, ◌∷◌, length}
use Rattle.squall_span.proofs.Parting.{Parting}
use Rattle.squall_span.proofs.alone.alone.Given as goal

abbrev pub invariant-loop-span : goal.invariant-loop-span
invariant-loop-span l = Parting (l.fn.one ∷ l.fn.first) l.fn.second l.out.items (l.own ∷ l.first) (l.other ∷ l.second) l.from

abbrev pub decreases-loop-span : goal.decreases-loop-span
decreases-loop-span l = length l.first + length l.second
