use Rattle.std.proofs.Common.{◌-◌, length}
use Rattle.squall_table.specs.Legs.{said}
use Rattle.squall_table.proofs.Moving.{Walk}
use Rattle.squall_table.proofs.routes.push_routes.Given as goal

abbrev pub invariant-loop-at : goal.invariant-loop-at
invariant-loop-at l = Walk l.routes.legs.now l.moves (l.routes.number, said l.routes.heard) l.fn.lo l.reach l.hi l.first l.at l.initial.out.items l.out.items

abbrev pub decreases-loop-at : goal.decreases-loop-at
decreases-loop-at l = length l.moves - l.at
