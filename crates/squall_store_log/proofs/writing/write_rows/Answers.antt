use Rattle.squall_store_log.proofs.Payloads.{rows_written}
use Rattle.squall_store_log.proofs.writing.write_rows.Goals as goal

pub loop-row-preserved : goal.loop-row-preserved
loop-row-preserved c = rows_written c.args.rows.now c.loop-row.row-index c.row-item.result c.loop-row.out.items c.write_row.new.out.items c.args.out.now.items c.loop-row-test.true c.row-item.is
    c.in_ok-write_row.ensures.written c.in_ok-write_row.ensures.fits c.loop-row.invariant.0 c.loop-row.invariant.1
