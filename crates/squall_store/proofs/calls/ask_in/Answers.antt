use Rattle.std.proofs.Common.{◌<◌, subst}
use Rattle.squall_key.specs.Keys.{top}
use Rattle.squall_store.proofs.Called.{asked, not_asked}
use Rattle.squall_store.proofs.calls.ask_in.Goals as goal

pub returns-clause-asked : goal.returns-clause-asked
returns-clause-asked g c =
    asked g.D.Rows.run c.ask.result c.args.key c.args.after c.args.command.now c.args.store.now.part c.ask.new.self.part (g.D.Rows.row_of c.args.store.now.rows) (g.D.Rows.row_of c.ask.new.self.rows)
    (subst (λ k. k < top) c.rank-rank.ensures.value c.rank-rank.ensures.below) c.ask.ensures.part c.ask.ensures.answer c.ask.ensures.others

pub returns-clause-err : goal.returns-clause-err
returns-clause-err g c =
    not_asked c.ask.result c.args.key c.args.store.now.part c.ask.new.self.part (g.D.Rows.row_of c.args.store.now.rows) (g.D.Rows.row_of c.ask.new.self.rows)
    c.ask.ensures.part c.ask.ensures.err c.ask.ensures.others
