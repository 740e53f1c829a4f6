use Rattle.std.proofs.Common.{IfOk, subst}
use Rattle.squall_protocol.specs.declared.event.Event.TheVariants.{Give}
use Rattle.squall_protocol.specs.Steps.{GiveStep}
use Rattle.squall_world.specs.Views.{view}
use Rattle.squall_world.specs.Events.{IsGiveIn}
use Rattle.squall_world.proofs.Outcomes.{keeps_either, steps_if, same_if}
use Rattle.squall_world.proofs.Gifts.{give_keeps, give_steps}
use Rattle.squall_world.proofs.world.World.give.Goals as goal

pub invariant_of-self : goal.invariant_of-self
invariant_of-self c =
    keeps_either (λ r. IsGiveIn c.self.inside.net c.args.part c.args.max r c.give.new.self) (Give c.args.part c.args.max) c.self.inside.net c.give.new.self c.give.result c.self.invariant
    (λ answer h. give_keeps c.self.inside.net c.give.new.self c.args.part c.args.max answer c.self.invariant.net h)
    (λ answer h. give_steps c.self.inside.net c.give.new.self c.args.part c.args.max answer c.self.invariant.net h) (λ e h. h) c.give.ensures

pub returns-clause-ok : goal.returns-clause-ok
returns-clause-ok c =
    subst (λ n. IfOk c.give.result (λ answer. GiveStep (view n) c.args.part c.args.max answer (view c.give.new.self))) c.self.view_is
    (steps_if (λ r. IsGiveIn c.self.inside.net c.args.part c.args.max r c.give.new.self) (λ answer. GiveStep (view c.self.inside.net) c.args.part c.args.max answer (view c.give.new.self)) c.give.result
    (λ answer h. give_steps c.self.inside.net c.give.new.self c.args.part c.args.max answer c.self.invariant.net h) c.give.ensures)

pub returns-clause-err : goal.returns-clause-err
returns-clause-err c = same_if (λ r. IsGiveIn c.self.inside.net c.args.part c.args.max r c.give.new.self) c.self.inside.net c.give.new.self c.args.self.now c.give.result c.self.view_is (λ e h. h) c.give.ensures
