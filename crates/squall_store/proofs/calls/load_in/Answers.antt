use Rattle.std.proofs.Common.{subst}
use Rattle.squall_part.specs.Parts.{IsPart}
use Rattle.squall_store.proofs.Called.{loaded}
use Rattle.squall_store.proofs.calls.load_in.Goals as goal

pub returns : goal.returns
returns g c =
    loaded g.D.Rows.run c.args.chunk.now c.args.store.now.part c.load-loaded.new.self.part (g.D.Rows.row_of c.args.store.now.rows) (g.D.Rows.row_of c.load-loaded.new.self.rows)
    (g.D.Rows.copied c.args.batch.now) c.load-loaded.result c.load-loaded.ensures.answer c.load-loaded.ensures.installed c.load-loaded.ensures.others (subst IsPart c.part.ensures c.known.ensures)
