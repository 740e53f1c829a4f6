use Rattle.std.proofs.Common.{◌≡◌, ◌++◌, length, take}
use Rattle.std.specs.List.{flat_map, AllByRecursion}
use Rattle.squall_board.specs.Listed.{cell_entry}
use Rattle.squall_wire.specs.Spelling.{word, spell_cell}
use Rattle.squall_wire.specs.Fits.{IsWordCell}
use Rattle.squall_wire.proofs.cells.write_cells.Given as goal

abbrev pub invariant-loop-cell : goal.invariant-loop-cell
invariant-loop-cell l = record {
  written : l.out.items ≡ l.fn.out.items ++ (word (length l.cell-items) ++ flat_map (λ c. spell_cell (cell_entry c.0 c.1.now)) (take l.cell-index l.cell-items));
  known : AllByRecursion (λ c. IsWordCell (cell_entry c.0 c.1.now)) (take l.cell-index l.cell-items);
}
