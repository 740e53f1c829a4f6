use Rattle.std.proofs.Common.{◌≤◌, ◌-◌}
use Rattle.squall_store.specs.Memory.{IsEmptyFrom, AreAlikeBeside}
use Rattle.squall_store.proofs.memory.MemoryRows.clear.Given as goal

abbrev pub invariant-loop-key : goal.invariant-loop-key
invariant-loop-key l = (l.from ≤ l.at) × (l.at ≤ l.to) × IsEmptyFrom l.self l.from l.at × AreAlikeBeside l.self l.fn.self l.from l.to

abbrev pub decreases-loop-key : goal.decreases-loop-key
decreases-loop-key l = l.to - l.at
