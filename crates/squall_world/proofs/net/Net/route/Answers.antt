use Rattle.std.proofs.Common.{◌≡◌, Some, sym, ap, ◌∙◌, rules}
use Rattle.squall_protocol.specs.declared.event.Node.TheVariants.{Router}
use Rattle.squall_world.specs.Nets.{PeerValue, place_of}
use Rattle.squall_world.proofs.Standing.{router_there, router_peer}
use Rattle.squall_world.proofs.net.Net.route.Goals as goal

pub unreachable-requires : goal.unreachable-requires
unreachable-requires c =
    let r = router_peer c.args.self.now c.args.router c.in-Some.at c.index.result.now c.requires (search rules) (search rules) in
    c.in_default-role.not-Router r.0 (ap (λ (p : PeerValue). p.role) c.behind-self.view_is ∙ r.1)

pub returns : goal.returns
returns c =
    let place : place_of c.args.self.now (Router c.args.router) ≡ Some c.in-Some.at = search rules in
    let role = sym (ap (λ (p : PeerValue). p.role) c.behind-self.view_is) ∙ c.in-Router.is in
    (c.in-Some.at, c.index.result.now, c.in-Router.router, place, router_there c.args.self.now c.args.router c.in-Some.at c.index.result.now c.requires place (search rules), role, c.route.ensures)
