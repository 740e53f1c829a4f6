use Rattle.std.specs.Prelude.{string_bytes}
use Rattle.std.proofs.Common.{◌≡◌, ◌++◌, drop}
use Rattle.squall_cli_run.specs.Output.{move_lines}
use Rattle.squall_cli_run.proofs.course.add_moves.Given as goal

abbrev pub invariant-loop-change : goal.invariant-loop-change
invariant-loop-change l = string_bytes l.out ++ move_lines (drop l.change-index l.moves) ≡ string_bytes l.fn.out ++ move_lines l.moves
