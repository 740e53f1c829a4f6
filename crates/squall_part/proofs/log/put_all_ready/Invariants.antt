use Rattle.std.proofs.Common.{◌≡◌, ◌≤◌, ◌+◌, vec_len, vec_capacity}
use Rattle.squall_part.specs.Fresh.{put_logs}
use Rattle.squall_part.proofs.log.put_all_ready.Given as goal

abbrev pub invariant-loop-log : goal.invariant-loop-log
invariant-loop-log l = (vec_len l.logs + vec_len l.fresh ≤ vec_capacity l.logs) × (put_logs l.fresh.items l.logs.items ≡ put_logs l.initial.fresh.items l.initial.logs.items)

abbrev pub decreases-loop-log : goal.decreases-loop-log
decreases-loop-log l = vec_len l.fresh
