use Rattle.std.proofs.Common.{subst}
use Rattle.squall_part.specs.Parts.{IsPart}
use Rattle.squall_store.proofs.Called.{given_at}
use Rattle.squall_store.proofs.calls.give_at_in.Goals as goal

pub returns : goal.returns
returns g c =
    given_at g.D.Rows.run g.D.Rows.row_of c.args.key c.args.store.now.part c.give_at-given.new.self.part c.args.store.now.rows c.give_at-given.new.self.rows c.give_at-given.result c.give_at-given.ensures.rows
    c.give_at-given.ensures.answer (subst IsPart c.part.ensures c.known.ensures)
