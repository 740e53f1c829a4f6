use Rattle.std.proofs.Common.{◌≡◌, map, take}
use Rattle.squall_plan_edit.specs.Apart.{range_of}
use Rattle.squall_plan_edit.proofs.apart.ranges_of.Given as goal

abbrev pub invariant-loop-change : goal.invariant-loop-change
invariant-loop-change l = l.ranges.items ≡ map range_of (take l.change-index l.moves)
