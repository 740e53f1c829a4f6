use Rattle.squall_store.proofs.Called.{copied}
use Rattle.squall_store.proofs.calls.copy_in.Goals as goal

pub returns : goal.returns
returns g c = copied c.copy.result g.D.Rows.copied c.args.chunk.now (g.D.Rows.row_of c.args.store.now.rows) c.copy.ensures.rows
