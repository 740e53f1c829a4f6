use Rattle.std.proofs.Common.{subst}
use Rattle.squall_part.specs.Parts.{IsPart}
use Rattle.squall_store.proofs.Called.{given}
use Rattle.squall_store.proofs.calls.give_in.Goals as goal

pub returns : goal.returns
returns g c =
    given g.D.Rows.run g.D.Rows.row_of c.args.max c.args.store.now.part c.give-given.new.self.part c.args.store.now.rows c.give-given.new.self.rows c.give-given.result c.give-given.ensures.rows c.give-given.ensures.answer
    (subst IsPart c.part.ensures c.known.ensures)
