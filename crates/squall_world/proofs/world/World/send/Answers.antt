use Rattle.std.proofs.Common.{IfOk, subst}
use Rattle.squall_protocol.specs.declared.event.Event.TheVariants.{Send}
use Rattle.squall_protocol.specs.Steps.{SendStep}
use Rattle.squall_world.specs.Views.{view}
use Rattle.squall_world.specs.Events.{IsSendIn}
use Rattle.squall_world.proofs.Outcomes.{keeps_either, steps_if, same_if}
use Rattle.squall_world.proofs.Messages.{send_keeps, send_steps}
use Rattle.squall_world.proofs.world.World.send.Goals as goal

pub invariant_of-self : goal.invariant_of-self
invariant_of-self c =
    keeps_either (λ r. IsSendIn c.self.inside.net c.args.node r c.send.new.self) (Send c.args.node) c.self.inside.net c.send.new.self c.send.result c.self.invariant
    (λ answer h. send_keeps c.self.inside.net c.send.new.self c.args.node answer c.self.invariant.net h)
    (λ answer h. send_steps c.self.inside.net c.send.new.self c.args.node answer c.self.invariant.net h) (λ e h. h) c.send.ensures

pub returns-clause-ok : goal.returns-clause-ok
returns-clause-ok c =
    subst (λ n. IfOk c.send.result (λ answer. SendStep (view n) c.args.node answer (view c.send.new.self))) c.self.view_is
    (steps_if (λ r. IsSendIn c.self.inside.net c.args.node r c.send.new.self) (λ answer. SendStep (view c.self.inside.net) c.args.node answer (view c.send.new.self)) c.send.result
    (λ answer h. send_steps c.self.inside.net c.send.new.self c.args.node answer c.self.invariant.net h) c.send.ensures)

pub returns-clause-err : goal.returns-clause-err
returns-clause-err c = same_if (λ r. IsSendIn c.self.inside.net c.args.node r c.send.new.self) c.self.inside.net c.send.new.self c.args.self.now c.send.result c.self.view_is (λ e h. h) c.send.ensures
