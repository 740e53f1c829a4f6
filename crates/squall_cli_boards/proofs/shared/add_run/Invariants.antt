use Rattle.std.proofs.Common.{◌≡◌, ◌++◌, ◌+◌, ◌-◌}
use Rattle.std.specs.List.{range_with_len}
use Rattle.squall_cli_boards.specs.Shared.{parts_of_run}
use Rattle.squall_cli_boards.proofs.shared.add_run.Given as goal

-- the partitions so far, and those that are left of the run
abbrev pub invariant-loop-number : goal.invariant-loop-number
invariant-loop-number l = l.parts.items ++ range_with_len l.number (l.fn.run.1 + 1 - l.number) ≡ l.fn.parts.items ++ parts_of_run l.fn.run
