use Rattle.std.proofs.Common.{IfOk, subst}
use Rattle.squall_protocol.specs.declared.event.Event.TheVariants.{Finish}
use Rattle.squall_protocol.specs.Steps.{FinishStep}
use Rattle.squall_world.specs.Views.{view}
use Rattle.squall_world.specs.Events.{IsFinishIn}
use Rattle.squall_world.proofs.Outcomes.{keeps_either, steps_if, same_if}
use Rattle.squall_world.proofs.Loads.{finish_keeps, finish_steps}
use Rattle.squall_world.proofs.world.World.finish.Goals as goal

pub invariant_of-self : goal.invariant_of-self
invariant_of-self c =
    keeps_either (λ r. IsFinishIn c.self.inside.net c.args.part c.args.sub r c.finish.new.self) (Finish c.args.part c.args.sub) c.self.inside.net c.finish.new.self c.finish.result c.self.invariant
    (λ answer h. finish_keeps c.self.inside.net c.finish.new.self c.args.part c.args.sub answer c.self.invariant.net h)
    (λ answer h. finish_steps c.self.inside.net c.finish.new.self c.args.part c.args.sub answer c.self.invariant.net h) (λ e h. h) c.finish.ensures

pub returns-clause-ok : goal.returns-clause-ok
returns-clause-ok c =
    subst (λ n. IfOk c.finish.result (λ answer. FinishStep (view n) c.args.part c.args.sub answer (view c.finish.new.self))) c.self.view_is
    (steps_if (λ r. IsFinishIn c.self.inside.net c.args.part c.args.sub r c.finish.new.self) (λ answer. FinishStep (view c.self.inside.net) c.args.part c.args.sub answer (view c.finish.new.self)) c.finish.result
    (λ answer h. finish_steps c.self.inside.net c.finish.new.self c.args.part c.args.sub answer c.self.invariant.net h) c.finish.ensures)

pub returns-clause-err : goal.returns-clause-err
returns-clause-err c = same_if (λ r. IsFinishIn c.self.inside.net c.args.part c.args.sub r c.finish.new.self) c.self.inside.net c.finish.new.self c.args.self.now c.finish.result c.self.view_is (λ e h. h) c.finish.ensures
