use Rattle.std.proofs.Common.{subst}
use Rattle.squall_part.specs.Parts.{IsPart}
use Rattle.squall_store.proofs.Called.{closed}
use Rattle.squall_store.proofs.calls.close_in.Goals as goal

pub returns : goal.returns
returns g c =
    closed g.D.Rows.run g.D.Rows.row_of c.args.store.now.part c.close-number.new.self.part c.args.store.now.rows c.close-number.new.self.rows c.close-number.ensures.rows
    c.close-number.ensures.part (subst IsPart c.part.ensures c.known.ensures)
