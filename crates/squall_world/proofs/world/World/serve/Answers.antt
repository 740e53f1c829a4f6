use Rattle.std.proofs.Common.{subst}
use Rattle.squall_protocol.specs.Steps.{ServeStep}
use Rattle.squall_world.specs.Views.{view}
use Rattle.squall_world.proofs.Asks.{serve_steps}
use Rattle.squall_world.proofs.world.World.serve.Goals as goal

pub returns : goal.returns
returns c = subst (λ n. ServeStep (view n) c.args.part c.args.key c.args.after c.serve.result (view n)) c.self.view_is (serve_steps c.self.inside.net c.args.part c.args.key c.args.after c.serve.result c.self.invariant.net c.serve.ensures)
