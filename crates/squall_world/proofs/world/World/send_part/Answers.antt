use Rattle.std.proofs.Common.{IfOk, subst}
use Rattle.squall_protocol.specs.declared.event.Event.TheVariants.{SendPart}
use Rattle.squall_protocol.specs.Steps.{SendPartStep}
use Rattle.squall_protocol.proofs.ProtocolLaws.{true_reports}
use Rattle.squall_world.specs.Views.{view}
use Rattle.squall_world.specs.Events.{IsSendPartIn}
use Rattle.squall_world.proofs.Outcomes.{keeps_either, steps_if, same_if}
use Rattle.squall_world.proofs.Messages.{send_part_keeps, send_part_steps}
use Rattle.squall_world.proofs.world.World.send_part.Goals as goal

pub invariant_of-self : goal.invariant_of-self
invariant_of-self c =
    keeps_either (λ r. IsSendPartIn c.self.inside.net c.args.node c.args.said.now r c.send_part.new.self) (SendPart c.args.node c.args.said.now) c.self.inside.net c.send_part.new.self c.send_part.result c.self.invariant
    (λ answer h. send_part_keeps c.self.inside.net c.send_part.new.self c.args.node c.args.said.now answer c.self.invariant.net h)
    (λ answer h. send_part_steps c.self.inside.net c.send_part.new.self c.args.node c.args.said.now answer c.self.invariant.net (true_reports (view c.self.inside.net) c.self.invariant.reached) h) (λ e h. h) c.send_part.ensures

pub returns-clause-ok : goal.returns-clause-ok
returns-clause-ok c =
    subst (λ n. IfOk c.send_part.result (λ answer. SendPartStep (view n) c.args.node c.args.said.now answer (view c.send_part.new.self))) c.self.view_is
    (steps_if (λ r. IsSendPartIn c.self.inside.net c.args.node c.args.said.now r c.send_part.new.self) (λ answer. SendPartStep (view c.self.inside.net) c.args.node c.args.said.now answer (view c.send_part.new.self)) c.send_part.result
    (λ answer h. send_part_steps c.self.inside.net c.send_part.new.self c.args.node c.args.said.now answer c.self.invariant.net (true_reports (view c.self.inside.net) c.self.invariant.reached) h) c.send_part.ensures)

pub returns-clause-err : goal.returns-clause-err
returns-clause-err c = same_if (λ r. IsSendPartIn c.self.inside.net c.args.node c.args.said.now r c.send_part.new.self) c.self.inside.net c.send_part.new.self c.args.self.now c.send_part.result c.self.view_is (λ e h. h) c.send_part.ensures
