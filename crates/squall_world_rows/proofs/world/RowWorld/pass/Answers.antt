use Rattle.squall_world_rows.proofs.Going.{passed, pass_failed, pass_kept}
use Rattle.squall_world_rows.proofs.world.RowWorld.pass.Goals as goal

pub invariant_of-self : goal.invariant_of-self
invariant_of-self c =
    pass_kept c.self.inside.world c.self.inside.rows.items c.self.inside.sent.items c.self.invariant c.promised.ensures.reached c.step.new.self c.args.event.now c.step.result c.requires c.step.ensures.ok c.step.ensures.err

pub returns-clause-ok : goal.returns-clause-ok
returns-clause-ok c =
    passed c.self.inside.world c.self.inside.rows.items c.self.inside.sent.items c.self.invariant c.promised.ensures.reached c.step.new.self c.args.self.now c.args.event.now c.step.result c.self.view_is c.requires c.step.ensures.ok

pub returns-clause-err : goal.returns-clause-err
returns-clause-err c =
    pass_failed c.self.inside.world c.self.inside.rows.items c.self.inside.sent.items c.self.invariant c.promised.ensures.reached c.step.new.self c.args.self.now c.step.result c.self.view_is c.step.ensures.err
