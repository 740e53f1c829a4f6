use Rattle.std.proofs.Common.{◌-◌}
use Rattle.squall_store.proofs.Listed.{IsListedTo}
use Rattle.squall_store.proofs.memory.MemoryRows.listed.Given as goal

abbrev pub invariant-loop-key : goal.invariant-loop-key
invariant-loop-key l = IsListedTo l.self l.fn.span.lo l.at l.to l.values.items

abbrev pub decreases-loop-key : goal.decreases-loop-key
decreases-loop-key l = l.to - l.at
