use Rattle.std.proofs.Common.{◌∙◌}
use Rattle.std.proofs.lemmas.Result.{on_ok_weaker}
use Rattle.squall_wire.proofs.Placed.{cell_written}
use Rattle.squall_wire.proofs.cells.write_cell.Goals as goal

pub returns-clause-written : goal.returns-clause-written
returns-clause-written c = on_ok_weaker c.write_items.result (cell_written c.args.place c.args.complete c.args.spans.now c.spans-spans.result.now c.args.out.now.items c.head_bytes.result c.extend_from_slice.new.self.items c.write_items.new.out.items (c.spans-spans.ensures.value ∙ c.in_ok-list.ensures) c.head_bytes.ensures.bytes c.in_ok-extend_from_slice.ensures.items) c.write_items.ensures.written
