use Rattle.std.proofs.Common.{subst}
use Rattle.squall_protocol.specs.Steps.{RouteStep}
use Rattle.squall_world.specs.Views.{view}
use Rattle.squall_world.proofs.Asks.{route_steps}
use Rattle.squall_world.proofs.world.World.route.Goals as goal

pub returns : goal.returns
returns c = subst (λ n. RouteStep (view n) c.args.router c.args.key c.route.result (view n)) c.self.view_is (route_steps c.self.inside.net c.args.router c.args.key c.route.result c.self.invariant.net c.route.ensures)
