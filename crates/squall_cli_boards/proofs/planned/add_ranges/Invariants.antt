use Rattle.std.proofs.Common.{◌≡◌, ◌++◌, drop}
use Rattle.std.specs.Prelude.{string_bytes}
use Rattle.squall_cli_boards.specs.Planned.{range_lines}
use Rattle.squall_cli_boards.proofs.planned.add_ranges.Given as goal

-- the text so far, and the lines of the ranges that are left
abbrev pub invariant-loop-range : goal.invariant-loop-range
invariant-loop-range l = string_bytes l.text ++ range_lines (drop l.range-index l.ranges) ≡ string_bytes l.fn.text ++ range_lines l.ranges
