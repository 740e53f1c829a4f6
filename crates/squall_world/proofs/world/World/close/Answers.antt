use Rattle.std.proofs.Common.{subst}
use Rattle.squall_protocol.specs.declared.event.Event.TheVariants.{Close}
use Rattle.squall_protocol.specs.Steps.{CloseStep}
use Rattle.squall_protocol.specs.WorldLaws.{reached_step}
use Rattle.squall_world.specs.Views.{view}
use Rattle.squall_world.proofs.Closing.{close_keeps, close_steps}
use Rattle.squall_world.proofs.world.World.close.Goals as goal

pub invariant_of-self : goal.invariant_of-self
invariant_of-self c =
    let step = close_steps c.self.inside.net c.close.new.self c.args.part c.close.result c.self.invariant.net c.close.ensures in
    record {
      net = close_keeps c.self.inside.net c.close.new.self c.args.part c.close.result c.self.invariant.net c.close.ensures;
      reached = reached_step (view c.self.inside.net) (view c.close.new.self) (Close c.args.part) c.close.result c.self.invariant.reached step;
    }

pub returns : goal.returns
returns c =
    subst (λ n. CloseStep (view n) c.args.part c.close.result (view c.close.new.self)) c.self.view_is
    (close_steps c.self.inside.net c.close.new.self c.args.part c.close.result c.self.invariant.net c.close.ensures)
