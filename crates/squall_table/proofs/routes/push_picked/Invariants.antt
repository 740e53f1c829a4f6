use Rattle.squall_table.specs.Legs.{pick}
use Rattle.squall_table.proofs.Picks.{Walk}
use Rattle.squall_table.proofs.routes.push_picked.Given as goal

abbrev pub invariant-loop-span : goal.invariant-loop-span
invariant-loop-span l = Walk (pick l.set l.dest l.source) l.set l.fn.lo l.reach l.hi l.span-iterator l.initial.out.items l.out.items
