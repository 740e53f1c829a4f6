use Rattle.std.proofs.Common.{drop}
use Rattle.std.specs.List.{flat_map}
use Rattle.squall_board.specs.Listed.{cell_entry}
use Rattle.squall_delta.specs.Items.{items_of_cell}
use Rattle.squall_delta.specs.Cutting.{IsMeasured, cut_with}
use Rattle.squall_delta.specs.PieceStepLaws.{IsFeeding}
use Rattle.squall_delta.proofs.cut.cutter.Cutter.put_cells.Given as goal

abbrev pub invariant-loop-cell : goal.invariant-loop-cell
invariant-loop-cell l = record {
  measured : IsMeasured l.self.piece l.self.length l.self.has_issues l.self.last;
  feeding : IsFeeding (cut_with l.fn.self.most l.fn.self.finished.items l.fn.self.piece) (cut_with l.self.most l.self.finished.items l.self.piece) (flat_map (λ c. items_of_cell (cell_entry c.0 c.1.now)) l.cells) (flat_map (λ c. items_of_cell (cell_entry c.0 c.1.now)) (drop l.cell-index l.cells));
}
