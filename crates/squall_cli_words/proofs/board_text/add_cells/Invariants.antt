use Rattle.std.specs.Prelude.{string_bytes}
use Rattle.std.proofs.Common.{◌≡◌, ◌++◌, map, drop}
use Rattle.squall_board.specs.Listed.{cell_entry}
use Rattle.squall_cli_words.specs.BoardText.{cell_lines}
use Rattle.squall_cli_words.proofs.board_text.add_cells.Given as goal

abbrev pub invariant-loop-cell : goal.invariant-loop-cell
invariant-loop-cell l = string_bytes l.out ++ cell_lines (map (λ c. cell_entry c.0 c.1.now) (drop l.cell-index l.cells)) ≡ string_bytes l.fn.out ++ cell_lines (map (λ c. cell_entry c.0 c.1.now) l.cells)
