use Rattle.squall_span.proofs.Nearing.{Nearing}
use Rattle.squall_span.proofs.near.add_below.Given as goal

abbrev pub invariant-loop-span : goal.invariant-loop-span
invariant-loop-span l = Nearing l.fn.list.items l.fn.spans l.hi l.list.items l.span-iterator
