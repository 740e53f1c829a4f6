use Rattle.std.specs.Prelude.{string_bytes}
use Rattle.std.proofs.Common.{◌≡◌, ◌++◌, drop}
use Rattle.squall_status.specs.Texts.{move_lines}
use Rattle.squall_status.proofs.text.add_moves.Given as goal

abbrev pub invariant-loop-status : goal.invariant-loop-status
invariant-loop-status l = string_bytes l.out ++ move_lines l.shown (drop l.status-index l.moves) ≡ string_bytes l.fn.out ++ move_lines l.shown l.moves
