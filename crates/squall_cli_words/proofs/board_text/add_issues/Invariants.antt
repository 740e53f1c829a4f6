use Rattle.std.specs.Prelude.{string_bytes, map}
use Rattle.std.specs.Arc.{arc_value}
use Rattle.std.proofs.Common.{◌≡◌, ◌++◌, drop}
use Rattle.squall_join.specs.Flats.{flat_map}
use Rattle.squall_cli_words.specs.BoardText.{issue_lines}
use Rattle.squall_cli_words.proofs.board_text.add_issues.Given as goal

abbrev pub invariant-loop-entry : goal.invariant-loop-entry
invariant-loop-entry l = string_bytes l.out ++ issue_lines (map (λ e. (e.0, flat_map arc_value e.1)) (drop l.entry-index l.issues)) ≡ string_bytes l.fn.out ++ issue_lines (map (λ e. (e.0, flat_map arc_value e.1)) l.issues)
