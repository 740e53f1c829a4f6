use Rattle.std.proofs.Common.{subst}
use Rattle.squall_protocol.specs.Promises.{IsReached}
use Rattle.squall_world.specs.Views.{view}
use Rattle.squall_world.proofs.world.World.promised.Goals as goal

pub returns : goal.returns
returns c =
    let reached = subst (λ n. IsReached (view n)) c.self.view_is c.self.invariant.reached in
    let promised = c.promises.ensures in
    record {
      reached = reached;
      one_carrier = promised.one_carrier (view c.args.self.now) reached;
      true_reports = promised.true_reports (view c.args.self.now) reached;
      routed_is_loaded = promised.routed_is_loaded (view c.args.self.now) reached;
      one_destination = promised.one_destination (view c.args.self.now) reached;
      chunks_have_nodes = promised.chunks_have_nodes (view c.args.self.now) reached;
      routes_are_served = promised.routes_are_served (view c.args.self.now) reached;
      moves_are_served = promised.moves_are_served (view c.args.self.now) reached;
      awaited_comes = promised.awaited_comes (view c.args.self.now) reached;
      over_is_there = promised.over_is_there (view c.args.self.now) reached;
      first_routes_are_home = promised.first_routes_are_home (view c.args.self.now) reached;
      first_moves_are_due = promised.first_moves_are_due (view c.args.self.now) reached;
    }
