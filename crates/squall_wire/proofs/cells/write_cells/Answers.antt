use Rattle.std.proofs.Common.{◌<◌, ◌++◌, ℕ, List, length, ap, subst, ◌∙◌}
use Rattle.std.proofs.lemmas.Result.{err_from_is_err_and}
use Rattle.squall_board.specs.Listed.{cell_entry, cells_of}
use Rattle.squall_wire.specs.Limits.{body_limit}
use Rattle.squall_wire.specs.Spelling.{word, spell_cell}
use Rattle.squall_wire.specs.Fits.{IsWordCell}
use Rattle.squall_wire.specs.declared.encoding.EncodeFault.TheVariants.{TooLong}
use Rattle.squall_wire.proofs.Written.{list_more, list_long, all_more, passed_on}
use Rattle.squall_wire.proofs.Placed.{all_written, all_known, entries_spelled, entries_words}
use Rattle.squall_wire.proofs.cells.write_cells.Goals as goal

pub returns-in_err-write_within-clause-long : goal.returns-in_err-write_within-clause-long
returns-in_err-write_within-clause-long c = λ e.
    let p = err_from_is_err_and c.from_residual-in_err-write_within.result c.from_residual-in_err-write_within.ensures.1 in
    subst (λ (v : List ℕ). body_limit < length (c.args.out.now.items ++ v)) (entries_spelled (λ c. cell_entry c.0 c.1.now) c.deref-cell-items.result.now c.in_ok-cells.cells.items (cells_of c.args.board.now) c.deref-cell-items.ensures.value c.in_ok-cells.ensures)
    (list_long body_limit (λ c. spell_cell (cell_entry c.0 c.1.now)) c.args.out.now.items (word (length c.deref-cell-items.result.now)) c.deref-cell-items.result.now c.loop-cell.cell-index c.cell-item.result c.loop-cell.out.items c.loop-cell-test.true c.cell-item.is c.loop-cell.invariant.written
    (c.write_within.ensures.long (passed_on c.write_within.result c.from_residual-in_err-write_within.result c.in_err-write_within.field-0.0 p.0 TooLong c.in_err-write_within.was p.1 p.2 e)))

pub loop-cell-preserved : goal.loop-cell-preserved
loop-cell-preserved c = record {
  written = list_more (λ c. spell_cell (cell_entry c.0 c.1.now)) c.args.out.now.items (word (length c.deref-cell-items.result.now)) c.deref-cell-items.result.now c.loop-cell.cell-index c.cell-item.result c.loop-cell.out.items c.write_within.new.out.items c.loop-cell-test.true c.cell-item.is c.loop-cell.invariant.written c.in_ok-write_within.ensures.written;
  known = all_more (λ c. IsWordCell (cell_entry c.0 c.1.now)) c.deref-cell-items.result.now c.loop-cell.cell-index c.cell-item.result c.loop-cell-test.true c.cell-item.is c.loop-cell.invariant.known c.in_ok-write_within.ensures.known;
}

pub returns-clause-written : goal.returns-clause-written
returns-clause-written c =
    all_written (λ c. spell_cell (cell_entry c.0 c.1.now)) c.args.out.now.items (word (length c.deref-cell-items.result.now)) c.deref-cell-items.result.now c.loop-cell.cell-index c.loop-cell.out.items c.loop-cell-test.false c.loop-cell.invariant.written
    ∙ ap (λ v. c.args.out.now.items ++ v) (entries_spelled (λ c. cell_entry c.0 c.1.now) c.deref-cell-items.result.now c.in_ok-cells.cells.items (cells_of c.args.board.now) c.deref-cell-items.ensures.value c.in_ok-cells.ensures)

pub returns-clause-known : goal.returns-clause-known
returns-clause-known c = entries_words (λ c. cell_entry c.0 c.1.now) c.deref-cell-items.result.now c.in_ok-cells.cells.items (cells_of c.args.board.now) c.deref-cell-items.ensures.value c.in_ok-cells.ensures
    (all_known (λ c. IsWordCell (cell_entry c.0 c.1.now)) c.deref-cell-items.result.now c.loop-cell.cell-index c.loop-cell-test.false c.loop-cell.invariant.known)
