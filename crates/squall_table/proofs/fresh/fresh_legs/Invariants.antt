use Rattle.squall_plan.specs.Ranges.{owner_of}
use Rattle.squall_board.specs.MovesRoute.{route_by_moves}
use Rattle.squall_table.specs.Legs.{said}
use Rattle.squall_table.specs.LegEntries.{legs_from}
use Rattle.squall_table.specs.LegEntries.{legs_from}
use Rattle.squall_table.specs.Patching.{renewed}
use Rattle.squall_table.proofs.Patching.{Patching}
use Rattle.squall_table.proofs.fresh.fresh_legs.Given as goal

abbrev pub invariant-loop-span : goal.invariant-loop-span
invariant-loop-span l = Patching (renewed l.set (route_by_moves l.routes.number l.routes.legs.now l.moves (said l.routes.heard)) (owner_of (legs_from 0 l.table))) l.set l.moves l.fn.lo l.reach l.hi l.span-index l.seen l.taken l.out.items
