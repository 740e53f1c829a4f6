use Rattle.std.proofs.Common.{IfOk, subst}
use Rattle.squall_protocol.specs.declared.event.Event.TheVariants.{GiveAt}
use Rattle.squall_protocol.specs.Steps.{GiveAtStep}
use Rattle.squall_world.specs.Views.{view}
use Rattle.squall_world.specs.Events.{IsGiveAtIn}
use Rattle.squall_world.proofs.Outcomes.{keeps_either, steps_if, same_if}
use Rattle.squall_world.proofs.Gifts.{give_at_keeps, give_at_steps}
use Rattle.squall_world.proofs.world.World.give_at.Goals as goal

pub invariant_of-self : goal.invariant_of-self
invariant_of-self c =
    keeps_either (λ r. IsGiveAtIn c.self.inside.net c.args.part c.args.key r c.give_at.new.self) (GiveAt c.args.part c.args.key) c.self.inside.net c.give_at.new.self c.give_at.result c.self.invariant
    (λ answer h. give_at_keeps c.self.inside.net c.give_at.new.self c.args.part c.args.key answer c.self.invariant.net h)
    (λ answer h. give_at_steps c.self.inside.net c.give_at.new.self c.args.part c.args.key answer c.self.invariant.net h) (λ e h. h) c.give_at.ensures

pub returns-clause-ok : goal.returns-clause-ok
returns-clause-ok c =
    subst (λ n. IfOk c.give_at.result (λ answer. GiveAtStep (view n) c.args.part c.args.key answer (view c.give_at.new.self))) c.self.view_is
    (steps_if (λ r. IsGiveAtIn c.self.inside.net c.args.part c.args.key r c.give_at.new.self) (λ answer. GiveAtStep (view c.self.inside.net) c.args.part c.args.key answer (view c.give_at.new.self)) c.give_at.result
    (λ answer h. give_at_steps c.self.inside.net c.give_at.new.self c.args.part c.args.key answer c.self.invariant.net h) c.give_at.ensures)

pub returns-clause-err : goal.returns-clause-err
returns-clause-err c = same_if (λ r. IsGiveAtIn c.self.inside.net c.args.part c.args.key r c.give_at.new.self) c.self.inside.net c.give_at.new.self c.args.self.now c.give_at.result c.self.view_is (λ e h. h) c.give_at.ensures
