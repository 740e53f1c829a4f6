use Rattle.std.proofs.Common.{◌-◌}
use Rattle.squall_table.proofs.Walked.{Copied}
use Rattle.squall_table.proofs.entries.copy_entries.Given as goal

abbrev pub invariant-loop-rest : goal.invariant-loop-rest
invariant-loop-rest l = Copied l.table l.rest l.fn.lo l.reach l.hi l.initial.out.items l.out.items

abbrev pub decreases-loop-rest : goal.decreases-loop-rest
decreases-loop-rest l = l.hi - l.reach
