use Rattle.std.proofs.Common.{drop}
use Rattle.squall_span.proofs.Nearing.{Beside}
use Rattle.squall_span.proofs.near.listed_near.Given as goal

abbrev pub invariant-loop-span : goal.invariant-loop-span
invariant-loop-span l = Beside l.own l.set l.list.items (drop l.span-index l.own)
