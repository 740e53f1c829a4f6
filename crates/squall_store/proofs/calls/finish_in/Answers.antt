use Rattle.std.proofs.Common.{subst}
use Rattle.squall_part.specs.Parts.{IsPart}
use Rattle.squall_store.proofs.Called.{finished}
use Rattle.squall_store.proofs.calls.finish_in.Goals as goal

pub returns : goal.returns
returns g c =
    finished g.D.Rows.run g.D.Rows.row_of c.args.sub c.args.store.now.part c.finish-finished.new.self.part c.args.store.now.rows c.finish-finished.new.self.rows c.finish-finished.result c.finish-finished.ensures.rows
    c.finish-finished.ensures.answer (subst IsPart c.part.ensures c.known.ensures)
