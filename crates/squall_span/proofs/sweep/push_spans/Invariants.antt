use Rattle.std.proofs.Common.{◌∷◌, []}
use Rattle.squall_span.proofs.Merging.{Merging}
use Rattle.squall_span.proofs.sweep.push_spans.Given as goal

abbrev pub invariant-loop-next : goal.invariant-loop-next
invariant-loop-next l = Merging l.fn.out.items (l.fn.span ∷ l.fn.rest) l.out.items l.next-iterator []
