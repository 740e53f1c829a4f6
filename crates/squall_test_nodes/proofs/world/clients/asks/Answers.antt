use Rattle.std.proofs.Common.{subst}
use Rattle.squall_protocol.specs.Steps.{RouteStep}
use Rattle.squall_world.specs.Views.{view}
use Rattle.squall_test_nodes.proofs.world.clients.asks.Goals as goal

pub returns : goal.returns
returns c = λ d part by is other.
    let step = subst (λ answer. RouteStep (view c.args.world.now) c.args.router c.args.key answer (view c.args.world.now)) is c.route.ensures in
    c.promised.ensures.routed_is_loaded c.args.router c.args.key part d by step.1 other
