use Rattle.std.proofs.Common.{IfOk, subst}
use Rattle.squall_world.specs.Views.{view}
use Rattle.squall_world.specs.Events.{IsOpenIn}
use Rattle.squall_protocol.specs.declared.event.Event.TheVariants.{OpenNext}
use Rattle.squall_protocol.specs.Steps.{OpenStep}
use Rattle.squall_world.proofs.Outcomes.{keeps_either, steps_if, same_if}
use Rattle.squall_world.proofs.Opening.{open_keeps, open_steps}
use Rattle.squall_world.proofs.world.World.open_next.Goals as goal

pub invariant_of-self : goal.invariant_of-self
invariant_of-self c =
    keeps_either (λ r. IsOpenIn c.self.inside.net r c.open_next.new.self) OpenNext c.self.inside.net c.open_next.new.self c.open_next.result c.self.invariant
    (λ answer h. open_keeps c.self.inside.net answer c.open_next.new.self c.self.invariant.net h)
    (λ answer h. open_steps c.self.inside.net answer c.open_next.new.self c.self.invariant.net h) (λ e h. h) c.open_next.ensures

pub returns-clause-ok : goal.returns-clause-ok
returns-clause-ok c =
    subst (λ n. IfOk c.open_next.result (λ answer. OpenStep (view n) answer (view c.open_next.new.self))) c.self.view_is
    (steps_if (λ r. IsOpenIn c.self.inside.net r c.open_next.new.self) (λ answer. OpenStep (view c.self.inside.net) answer (view c.open_next.new.self)) c.open_next.result
    (λ answer h. open_steps c.self.inside.net answer c.open_next.new.self c.self.invariant.net h) c.open_next.ensures)

pub returns-clause-err : goal.returns-clause-err
returns-clause-err c = same_if (λ r. IsOpenIn c.self.inside.net r c.open_next.new.self) c.self.inside.net c.open_next.new.self c.args.self.now c.open_next.result c.self.view_is (λ e h. h) c.open_next.ensures
