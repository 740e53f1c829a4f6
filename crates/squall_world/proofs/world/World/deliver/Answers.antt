use Rattle.std.proofs.Common.{IfOk, subst}
use Rattle.squall_protocol.specs.declared.event.Event.TheVariants.{Deliver}
use Rattle.squall_protocol.specs.Steps.{DeliverStep}
use Rattle.squall_world.specs.Views.{view}
use Rattle.squall_world.specs.Events.{IsDeliverIn}
use Rattle.squall_world.proofs.Outcomes.{keeps_either, steps_if, same_if}
use Rattle.squall_world.proofs.Messages.{deliver_keeps, deliver_steps}
use Rattle.squall_world.proofs.world.World.deliver.Goals as goal

pub invariant_of-self : goal.invariant_of-self
invariant_of-self c =
    keeps_either (λ r. IsDeliverIn c.self.inside.net c.args.message c.args.node r c.deliver.new.self) (Deliver c.args.message c.args.node) c.self.inside.net c.deliver.new.self c.deliver.result c.self.invariant
    (λ answer h. deliver_keeps c.self.inside.net c.deliver.new.self c.args.message c.args.node answer c.self.invariant.net h)
    (λ answer h. deliver_steps c.self.inside.net c.deliver.new.self c.args.message c.args.node answer c.self.invariant.net h) (λ e h. h) c.deliver.ensures

pub returns-clause-ok : goal.returns-clause-ok
returns-clause-ok c =
    subst (λ n. IfOk c.deliver.result (λ answer. DeliverStep (view n) c.args.message c.args.node answer (view c.deliver.new.self))) c.self.view_is
    (steps_if (λ r. IsDeliverIn c.self.inside.net c.args.message c.args.node r c.deliver.new.self) (λ answer. DeliverStep (view c.self.inside.net) c.args.message c.args.node answer (view c.deliver.new.self)) c.deliver.result
    (λ answer h. deliver_steps c.self.inside.net c.deliver.new.self c.args.message c.args.node answer c.self.invariant.net h) c.deliver.ensures)

pub returns-clause-err : goal.returns-clause-err
returns-clause-err c = same_if (λ r. IsDeliverIn c.self.inside.net c.args.message c.args.node r c.deliver.new.self) c.self.inside.net c.deliver.new.self c.args.self.now c.deliver.result c.self.view_is (λ e h. h) c.deliver.ensures
