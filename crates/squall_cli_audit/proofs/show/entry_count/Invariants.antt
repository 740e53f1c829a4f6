use Rattle.std.proofs.Common.{◌≡◌, ◌≤◌, ◌+◌, ◌*◌, ◌^◌, drop}
use Rattle.squall_cli_audit.specs.AuditText.{entry_count}
use Rattle.squall_cli_audit.proofs.show.entry_count.Given as goal

abbrev pub invariant-loop-log : goal.invariant-loop-log
invariant-loop-log l = (l.count + entry_count (drop l.log-index l.logs) ≡ entry_count l.logs) × (l.count ≤ l.log-index * 2 ^ 63)
