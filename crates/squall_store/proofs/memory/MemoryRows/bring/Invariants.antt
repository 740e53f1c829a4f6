use Rattle.std.proofs.Common.{◌≤◌, ◌-◌}
use Rattle.squall_store.specs.Memory.{IsEmptyFrom, AreAlikeFrom, AreAlikeBeside}
use Rattle.squall_store.proofs.memory.MemoryRows.bring.Given as goal

abbrev pub invariant-loop-key : goal.invariant-loop-key
invariant-loop-key l = (l.from ≤ l.at) × (l.at ≤ l.to) × AreAlikeFrom l.self-inside.values.entries l.others l.from l.at
    × IsEmptyFrom l.self-inside.values.entries l.at l.to × AreAlikeBeside l.self-inside.values.entries l.fn.self l.from l.to

abbrev pub decreases-loop-key : goal.decreases-loop-key
decreases-loop-key l = l.to - l.at
