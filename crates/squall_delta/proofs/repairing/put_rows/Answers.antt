use Rattle.std.proofs.Common.{◌≢◌, []}
use Rattle.squall_board.specs.Boards.{row_board}
use Rattle.squall_delta.specs.Kept.{lacks_row}
use Rattle.squall_delta.proofs.Repaired.{next_kept}
use Rattle.squall_delta.proofs.Rows.{all_at, parts_at}
use Rattle.squall_delta.proofs.repairing.put_rows.Goals as goal

pub put_row-requires-clause-cells : goal.put_row-requires-clause-cells
put_row-requires-clause-cells c = parts_at c.args.number c.args.subs.now c.loop-entry.entry-index c.entry-item.result c.loop-entry-test.true c.entry-item.is c.requires.cells

pub put_row-requires-clause-some : goal.put_row-requires-clause-some
put_row-requires-clause-some c = all_at (λ e. e.1 ≢ []) c.args.subs.now c.loop-entry.entry-index c.entry-item.result c.loop-entry-test.true c.entry-item.is c.requires.some

pub loop-entry-preserved : goal.loop-entry-preserved
loop-entry-preserved c = next_kept (lacks_row c.args.digest.now c.args.number) (λ e. row_board c.args.number e.0 e.1) c.loop-entry.delta c.put_row.new.delta _ c.args.subs.now c.loop-entry.entry-index c.entry-item.result c.loop-entry-test.true c.entry-item.is c.loop-entry.invariant c.in_ok-put_row.ensures
