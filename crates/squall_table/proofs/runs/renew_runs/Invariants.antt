use Rattle.std.proofs.Common.{◌≡◌, ◌-◌, ◌≤◌, length, take}
use Rattle.squall_key.specs.Keys.{top}
use Rattle.squall_plan.specs.Ranges.{owner_of}
use Rattle.squall_course.specs.Moves.{moves_of}
use Rattle.squall_board.specs.MovesRoute.{route_by_moves}
use Rattle.squall_table.specs.declared.routes.Heard.TheVariants.{All}
use Rattle.squall_table.specs.LegEntries.{legs_from}
use Rattle.squall_table.specs.Legs.{Legs, said}
use Rattle.squall_table.specs.Patching.{renewed}
use Rattle.squall_table.proofs.runs.renew_runs.Given as goal

abbrev pub invariant-loop-at : goal.invariant-loop-at
invariant-loop-at l =
    (l.draft.0 ≡ l.fn.draft.0) × (l.at ≤ length l.spans)
    × Legs (renewed (take l.at l.spans) (route_by_moves l.course.number l.course.old (moves_of l.course.old l.course.new) (said All)) (owner_of (legs_from 0 l.fn.draft.1))) 0 top (legs_from 0 l.draft.1)

abbrev pub decreases-loop-at : goal.decreases-loop-at
decreases-loop-at l = length l.spans - l.at
