use Rattle.std.proofs.Common.{◌≡◌, ◌++◌, ℕ, List, take, sym, ap, subst, ◌∙◌}
use Rattle.std.specs.List.{flat_map}
use Rattle.sha2.specs.Hashers.{Holds256}
use Rattle.squall_report.specs.Cells.{place_at}
use Rattle.squall_board.specs.Listed.{cell_entry, cells_of_parts}
use Rattle.squall_wire.specs.Spelling.{spell_cell}
use Rattle.squall_delta.proofs.Rows.{row_more}
use Rattle.squall_delta.proofs.hashing.row_hash.Goals as goal

pub loop-entry-preserved : goal.loop-entry-preserved
loop-entry-preserved c =
    let before : List ℕ = flat_map spell_cell (cells_of_parts c.args.number c.args.sub (take c.loop-entry.entry-index c.entries-entry-items.result.now)) in
    let more = row_more c.args.number c.args.sub c.entries-entry-items.result.now c.loop-entry.entry-index c.entry-item.result c.loop-entry-test.true c.entry-item.is in
    let bytes : c.as_slice.result.now ≡ spell_cell (cell_entry (place_at c.args.number c.args.sub c.entry-item.result.0) c.entry-item.result.1) =
    c.as_slice.ensures.value
    ∙ c.in_ok-write_lent_cell.ensures
    ∙ ap (λ v. v ++ spell_cell (cell_entry c.of.result c.entry-item.result.1)) c.clear.ensures.items
    ∙ ap (λ p. spell_cell (cell_entry p c.entry-item.result.1)) c.of.ensures in
    subst (λ (t : List ℕ). Holds256 c.update.new.self t) (ap (λ (t : List ℕ). before ++ t) bytes ∙ sym more) (c.update.ensures before c.loop-entry.invariant)
