use Rattle.std.proofs.Common.{IfOk, subst}
use Rattle.squall_protocol.specs.declared.event.Event.TheVariants.{Load}
use Rattle.squall_protocol.specs.Steps.{LoadStep}
use Rattle.squall_world.specs.Views.{view}
use Rattle.squall_world.specs.Events.{IsLoadIn}
use Rattle.squall_world.proofs.Outcomes.{keeps_either, steps_if, same_if}
use Rattle.squall_world.proofs.Loads.{load_keeps, load_steps}
use Rattle.squall_world.proofs.world.World.load.Goals as goal

pub invariant_of-self : goal.invariant_of-self
invariant_of-self c =
    keeps_either (λ r. IsLoadIn c.self.inside.net c.args.chunk r c.load.new.self) (Load c.args.chunk) c.self.inside.net c.load.new.self c.load.result c.self.invariant
    (λ answer h. load_keeps c.self.inside.net c.load.new.self c.args.chunk answer c.self.invariant.net h)
    (λ answer h. load_steps c.self.inside.net c.load.new.self c.args.chunk answer c.self.invariant.net h) (λ e h. h) c.load.ensures

pub returns-clause-ok : goal.returns-clause-ok
returns-clause-ok c =
    subst (λ n. IfOk c.load.result (λ answer. LoadStep (view n) c.args.chunk answer (view c.load.new.self))) c.self.view_is
    (steps_if (λ r. IsLoadIn c.self.inside.net c.args.chunk r c.load.new.self) (λ answer. LoadStep (view c.self.inside.net) c.args.chunk answer (view c.load.new.self)) c.load.result
    (λ answer h. load_steps c.self.inside.net c.load.new.self c.args.chunk answer c.self.invariant.net h) c.load.ensures)

pub returns-clause-err : goal.returns-clause-err
returns-clause-err c = same_if (λ r. IsLoadIn c.self.inside.net c.args.chunk r c.load.new.self) c.self.inside.net c.load.new.self c.args.self.now c.load.result c.self.view_is (λ e h. h) c.load.ensures
