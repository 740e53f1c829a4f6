use Rattle.std.proofs.Common.{map, take}
use Rattle.squall_cli_audit.specs.LogFiles.{AreLogsOf}
use Rattle.squall_cli_audit.proofs.files.read_files.Given as goal

abbrev pub invariant-loop-index : goal.invariant-loop-index
invariant-loop-index l = AreLogsOf (take l.index l.files) l.logs.items (map (λ ns. ns.items) l.lines.items)
