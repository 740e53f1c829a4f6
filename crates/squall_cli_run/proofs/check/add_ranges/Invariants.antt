use Rattle.std.specs.Prelude.{string_bytes}
use Rattle.std.proofs.Common.{◌≡◌, ◌++◌, drop}
use Rattle.squall_cli_run.specs.Output.{range_lines}
use Rattle.squall_cli_run.proofs.check.add_ranges.Given as goal

abbrev pub invariant-loop-range : goal.invariant-loop-range
invariant-loop-range l = string_bytes l.out ++ range_lines (drop l.range-index l.ranges) ≡ string_bytes l.fn.out ++ range_lines l.ranges
