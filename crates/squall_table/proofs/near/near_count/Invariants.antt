use Rattle.std.proofs.Common.{◌-◌}
use Rattle.squall_key.specs.Keys.{top}
use Rattle.squall_table.proofs.Walked.{Counted}
use Rattle.squall_table.proofs.near.near_count.Given as goal

abbrev pub invariant-loop-rest : goal.invariant-loop-rest
invariant-loop-rest l = Counted l.set l.table l.rest l.reach l.count

abbrev pub decreases-loop-rest : goal.decreases-loop-rest
decreases-loop-rest l = top - l.reach
