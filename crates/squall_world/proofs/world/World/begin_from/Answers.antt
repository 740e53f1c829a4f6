use Rattle.std.proofs.Common.{IfOk, subst}
use Rattle.squall_world.specs.Views.{view}
use Rattle.squall_world.specs.Events.{IsBeginFromIn}
use Rattle.squall_protocol.specs.declared.event.Event.TheVariants.{BeginFrom}
use Rattle.squall_protocol.specs.Steps.{BeginFromStep, IsPlan}
use Rattle.squall_world.proofs.Outcomes.{keeps_either, steps_if, same_if}
use Rattle.squall_world.proofs.Leaving.{begin_from_keeps, begin_from_steps}
use Rattle.squall_world.proofs.world.World.begin_from.Goals as goal

pub invariant_of-self : goal.invariant_of-self
invariant_of-self c =
    let plan : IsPlan c.args.old.now = record { canonical = c.know_plan.ensures.canonical; ranges = c.know_plan.ensures.ranges } in
    keeps_either (λ r. IsBeginFromIn c.self.inside.net c.args.old.now c.args.new.now r c.begin_from.new.self) (BeginFrom c.args.old.now c.args.new.now) c.self.inside.net c.begin_from.new.self c.begin_from.result c.self.invariant
    (λ answer h. begin_from_keeps c.self.inside.net c.args.old.now c.args.new.now answer c.begin_from.new.self c.self.invariant.net h)
    (λ answer h. begin_from_steps c.self.inside.net c.args.old.now c.args.new.now answer c.begin_from.new.self c.self.invariant.net c.self.invariant.reached plan h) (λ e h. h) c.begin_from.ensures

pub returns-clause-ok : goal.returns-clause-ok
returns-clause-ok c =
    let plan : IsPlan c.args.old.now = record { canonical = c.know_plan.ensures.canonical; ranges = c.know_plan.ensures.ranges } in
    subst (λ n. IfOk c.begin_from.result (λ answer. BeginFromStep (view n) c.args.old.now c.args.new.now answer (view c.begin_from.new.self))) c.self.view_is
    (steps_if (λ r. IsBeginFromIn c.self.inside.net c.args.old.now c.args.new.now r c.begin_from.new.self) (λ answer. BeginFromStep (view c.self.inside.net) c.args.old.now c.args.new.now answer (view c.begin_from.new.self)) c.begin_from.result
    (λ answer h. begin_from_steps c.self.inside.net c.args.old.now c.args.new.now answer c.begin_from.new.self c.self.invariant.net c.self.invariant.reached plan h) c.begin_from.ensures)

pub returns-clause-err : goal.returns-clause-err
returns-clause-err c = same_if (λ r. IsBeginFromIn c.self.inside.net c.args.old.now c.args.new.now r c.begin_from.new.self) c.self.inside.net c.begin_from.new.self c.args.self.now c.begin_from.result c.self.view_is (λ e h. h) c.begin_from.ensures
