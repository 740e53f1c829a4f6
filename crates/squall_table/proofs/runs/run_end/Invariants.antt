use Rattle.std.proofs.Common.{length, ◌-◌, ◌<◌, ◌≤◌}
use Rattle.squall_table.proofs.runs.run_end.Given as goal

abbrev pub invariant-loop-end : goal.invariant-loop-end
invariant-loop-end l = (l.at < l.end) × (l.end ≤ length l.spans)

abbrev pub decreases-loop-end : goal.decreases-loop-end
decreases-loop-end l = length l.spans - l.end
