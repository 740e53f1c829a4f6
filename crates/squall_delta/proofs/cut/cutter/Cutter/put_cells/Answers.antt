use Rattle.std.proofs.lemmas.Result.{err_from_is_err_and}
use Rattle.squall_delta.specs.declared.cut.fault.CutFault.TheVariants.{TooLong}
use Rattle.squall_delta.proofs.Slices.{passed_on}
use Rattle.std.proofs.Common.{◌+◌, drop}
use Rattle.std.specs.List.{flat_map}
use Rattle.squall_board.specs.Listed.{cell_entry}
use Rattle.squall_delta.specs.Items.{items_of_cell}
use Rattle.squall_delta.specs.Cutting.{cut_with}
use Rattle.squall_delta.specs.PieceStepLaws.{feeding_starts, feeding_ends, feeding_next, feeding_on, feeding_long, left_flat, none_left_flat}
use Rattle.squall_delta.proofs.cut.cutter.Cutter.put_cells.Goals as goal

pub loop-cell-init : goal.loop-cell-init
loop-cell-init c = record { measured = c.requires.measured; feeding = feeding_starts (cut_with c.args.self.now.most c.args.self.now.finished.items c.args.self.now.piece) (flat_map (λ c. items_of_cell (cell_entry c.0 c.1.now)) c.args.cells.now) c.requires.next }

pub put_cell-requires-clause-measured : goal.put_cell-requires-clause-measured
put_cell-requires-clause-measured c = c.loop-cell.invariant.measured

pub put_cell-requires-clause-next : goal.put_cell-requires-clause-next
put_cell-requires-clause-next c = feeding_next (cut_with c.args.self.now.most c.args.self.now.finished.items c.args.self.now.piece) (cut_with c.loop-cell.self.most c.loop-cell.self.finished.items c.loop-cell.self.piece) (flat_map (λ c. items_of_cell (cell_entry c.0 c.1.now)) c.args.cells.now) (flat_map (λ c. items_of_cell (cell_entry c.0 c.1.now)) (drop c.loop-cell.cell-index c.args.cells.now)) (items_of_cell (cell_entry c.cell-item.result.0 c.cell-item.result.1.now)) (flat_map (λ c. items_of_cell (cell_entry c.0 c.1.now)) (drop (c.loop-cell.cell-index + 1) c.args.cells.now))
    (left_flat (λ c. items_of_cell (cell_entry c.0 c.1.now)) c.args.cells.now c.loop-cell.cell-index c.cell-item.result c.loop-cell-test.true c.cell-item.is) c.loop-cell.invariant.feeding

pub loop-cell-preserved : goal.loop-cell-preserved
loop-cell-preserved c = record {
  measured = c.in_ok-put_cell.ensures.measured;
  feeding = feeding_on (cut_with c.args.self.now.most c.args.self.now.finished.items c.args.self.now.piece) (cut_with c.loop-cell.self.most c.loop-cell.self.finished.items c.loop-cell.self.piece) (cut_with c.put_cell.new.self.most c.put_cell.new.self.finished.items c.put_cell.new.self.piece) (flat_map (λ c. items_of_cell (cell_entry c.0 c.1.now)) c.args.cells.now) (flat_map (λ c. items_of_cell (cell_entry c.0 c.1.now)) (drop c.loop-cell.cell-index c.args.cells.now)) (items_of_cell (cell_entry c.cell-item.result.0 c.cell-item.result.1.now)) (flat_map (λ c. items_of_cell (cell_entry c.0 c.1.now)) (drop (c.loop-cell.cell-index + 1) c.args.cells.now))
      (left_flat (λ c. items_of_cell (cell_entry c.0 c.1.now)) c.args.cells.now c.loop-cell.cell-index c.cell-item.result c.loop-cell-test.true c.cell-item.is) c.in_ok-put_cell.ensures.fed c.loop-cell.invariant.feeding;
}

pub returns-clause-measured : goal.returns-clause-measured
returns-clause-measured c = c.loop-cell.invariant.measured

pub returns-clause-fed : goal.returns-clause-fed
returns-clause-fed c = feeding_ends (cut_with c.args.self.now.most c.args.self.now.finished.items c.args.self.now.piece) (cut_with c.loop-cell.self.most c.loop-cell.self.finished.items c.loop-cell.self.piece) (flat_map (λ c. items_of_cell (cell_entry c.0 c.1.now)) c.args.cells.now) (flat_map (λ c. items_of_cell (cell_entry c.0 c.1.now)) (drop c.loop-cell.cell-index c.args.cells.now)) (none_left_flat (λ c. items_of_cell (cell_entry c.0 c.1.now)) c.args.cells.now c.loop-cell.cell-index c.loop-cell-test.false) c.loop-cell.invariant.feeding

pub returns-in_err-put_cell-clause-long : goal.returns-in_err-put_cell-clause-long
returns-in_err-put_cell-clause-long c = λ e.
    let p = err_from_is_err_and c.from_residual.result c.from_residual.ensures.1 in
    feeding_long (cut_with c.args.self.now.most c.args.self.now.finished.items c.args.self.now.piece) (cut_with c.loop-cell.self.most c.loop-cell.self.finished.items c.loop-cell.self.piece) (flat_map (λ c. items_of_cell (cell_entry c.0 c.1.now)) c.args.cells.now) (flat_map (λ c. items_of_cell (cell_entry c.0 c.1.now)) (drop c.loop-cell.cell-index c.args.cells.now)) (items_of_cell (cell_entry c.cell-item.result.0 c.cell-item.result.1.now)) (flat_map (λ c. items_of_cell (cell_entry c.0 c.1.now)) (drop (c.loop-cell.cell-index + 1) c.args.cells.now))
    (left_flat (λ c. items_of_cell (cell_entry c.0 c.1.now)) c.args.cells.now c.loop-cell.cell-index c.cell-item.result c.loop-cell-test.true c.cell-item.is) (c.put_cell.ensures.long (passed_on c.put_cell.result c.from_residual.result c.in_err-put_cell.field-0.0 p.0 TooLong c.in_err-put_cell.was p.1 p.2 e)) c.loop-cell.invariant.feeding
