use Rattle.std.proofs.Common.{take}
use Rattle.std.specs.List.{AllByRecursion}
use Rattle.squall_world.specs.Events.{HasRange}
use Rattle.squall_world.proofs.net.Net.is_left.Given as goal

-- it is so of each range before this one
abbrev pub invariant-loop-range : goal.invariant-loop-range
invariant-loop-range l = AllByRecursion (HasRange l.self) (take l.range-index l.range-items)
