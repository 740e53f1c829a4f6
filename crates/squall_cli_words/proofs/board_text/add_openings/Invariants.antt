use Rattle.std.specs.Prelude.{string_bytes}
use Rattle.std.proofs.Common.{◌≡◌, ◌++◌, drop}
use Rattle.squall_cli_words.specs.BoardText.{opening_lines}
use Rattle.squall_cli_words.proofs.board_text.add_openings.Given as goal

abbrev pub invariant-loop-opening : goal.invariant-loop-opening
invariant-loop-opening l = string_bytes l.out ++ opening_lines (drop l.opening-index l.openings) ≡ string_bytes l.fn.out ++ opening_lines l.openings
