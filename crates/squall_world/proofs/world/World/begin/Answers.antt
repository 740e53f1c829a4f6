use Rattle.std.proofs.Common.{IfOk, subst}
use Rattle.squall_world.specs.Views.{view}
use Rattle.squall_world.specs.Events.{IsBeginIn}
use Rattle.squall_protocol.specs.declared.event.Event.TheVariants.{Begin}
use Rattle.squall_protocol.specs.Steps.{BeginStep}
use Rattle.squall_world.proofs.Outcomes.{keeps_either, steps_if, same_if}
use Rattle.squall_world.proofs.Beginning.{begin_keeps, begin_steps}
use Rattle.squall_world.proofs.world.World.begin.Goals as goal

pub invariant_of-self : goal.invariant_of-self
invariant_of-self c =
    keeps_either (λ r. IsBeginIn c.self.inside.net c.args.plan.now r c.begin.new.self) (Begin c.args.plan.now) c.self.inside.net c.begin.new.self c.begin.result c.self.invariant
    (λ answer h. begin_keeps c.self.inside.net c.args.plan.now answer c.begin.new.self c.self.invariant.net h)
    (λ answer h. begin_steps c.self.inside.net c.args.plan.now answer c.begin.new.self c.self.invariant.net c.self.invariant.reached h) (λ e h. h) c.begin.ensures

pub returns-clause-ok : goal.returns-clause-ok
returns-clause-ok c =
    subst (λ n. IfOk c.begin.result (λ answer. BeginStep (view n) c.args.plan.now answer (view c.begin.new.self))) c.self.view_is
    (steps_if (λ r. IsBeginIn c.self.inside.net c.args.plan.now r c.begin.new.self) (λ answer. BeginStep (view c.self.inside.net) c.args.plan.now answer (view c.begin.new.self)) c.begin.result
    (λ answer h. begin_steps c.self.inside.net c.args.plan.now answer c.begin.new.self c.self.invariant.net c.self.invariant.reached h) c.begin.ensures)

pub returns-clause-err : goal.returns-clause-err
returns-clause-err c = same_if (λ r. IsBeginIn c.self.inside.net c.args.plan.now r c.begin.new.self) c.self.inside.net c.begin.new.self c.args.self.now c.begin.result c.self.view_is (λ e h. h) c.begin.ensures
