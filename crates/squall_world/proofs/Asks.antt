-- Routers and partitions are asked: the steps of the world.
use Rattle.std.proofs.Common.{◌≡◌, ℕ, Some, sym, ap, subst, ◌∙◌, arith}
use Rattle.std.specs.List.{slice_get}
use Rattle.std.proofs.lemmas.Option.{same_Some}
use Rattle.squall_board.specs.BoardQueries.{queries_of}
use Rattle.squall_router.specs.Routers.{RouterValue, route_of_router}
use Rattle.squall_protocol.specs.declared.event.Node.TheVariants.{Part, Router}
use Rattle.squall_protocol.specs.declared.event.Event.TheVariants.{Route, Serve}
use Rattle.squall_protocol.specs.declared.answer.Answer.{Answer}
use Rattle.squall_protocol.specs.declared.answer.Answer.TheVariants.{Routed, Served, Refused}
use Rattle.squall_protocol.specs.Steps.{Step, RouteStep, ServeStep}
use Rattle.squall_protocol.specs.WorldLaws.{same_as_itself}
use Rattle.squall_nodes.specs.Standing.{StandsForRouter}
use Rattle.squall_nodes.proofs.Agree.{same_by}
use Rattle.squall_nodes.proofs.Gifts.{serves_by_step}
use Rattle.squall_nodes.proofs.Routes.{routes_by_step}
use Rattle.squall_world.specs.declared.peer.Role.TheVariants.{Router as RouterRole}
use Rattle.squall_world.specs.Nets.{PeerValue, NetValue, IsNet, IsPeer, IsRole, IsRouterAt, place_of, role_board, first_of}
use Rattle.squall_world.specs.Views.{view, facts_of}
use Rattle.squall_world.specs.Events.{IsRouteIn, IsServeIn}
use Rattle.squall_world.proofs.Lists.{all_at}
use Rattle.squall_world.proofs.Nodes.{node_there, no_node, router_place, router_same, first_seen}
use Rattle.squall_world.proofs.Seen.{part_stands, peer_there}
use Rattle.squall_world.proofs.Gifts.{part_valid}

-- ---- routers

router_first : (n : NetValue) (i : ℕ) (peer : PeerValue) (a : RouterValue) → IsRouterAt n i → slice_get n.peers i ≡ Some peer → peer.role ≡ RouterRole a → a.first ≡ first_of n
router_first n i peer a at there role = ap (λ v. v.first) (router_same a at.router (sym role ∙ ap (λ v. v.role) (same_Some peer at.peer (sym there ∙ at.there)) ∙ at.role)) ∙ at.first

-- the router stands for that of the world
router_stands : (n : NetValue) (r at : ℕ) (peer : PeerValue) (a : RouterValue) → IsNet n → place_of n (Router r) ≡ Some at → slice_get n.peers at ≡ Some peer → peer.role ≡ RouterRole a → StandsForRouter (view n) r a
router_stands n r at peer a net place there role =
    let stands = router_place n r at place in
    let lt = stands.0 in
    let eq = stands.1 in
    record {
      there = node_there n (Router r) at place;
      first = first_seen n net ∙ sym (router_first n at peer a (net.routers at (omega (arith, eq)) (omega (arith, eq, lt))) there role);
      told = same_by _ _ (ap facts_of (peer_there n (Router r) at peer place there) ∙ ap (λ v. queries_of (role_board v)) role);
    }

pub route_steps : (n : NetValue) (r k : ℕ) (answer : Answer) → IsNet n → IsRouteIn n r k answer → RouteStep (view n) r k answer (view n)
route_steps n r k (Routed p) net (at, peer, a, place, there, role, e) =
    let is : IsPeer peer = all_at IsPeer n.peers at peer net.peers there in
    let law = routes_by_step (view n) r k a (router_stands n r at peer a net place there role) (subst IsRole role is.role).0 in
    subst (λ q. RouteStep (view n) r k (Routed q) (view n)) (sym e) (subst (Step (view n) (Route r k) (Routed (route_of_router a k))) law.2 law.1)
route_steps n r k (Refused e) net (none, s) = subst (λ v. RouteStep (view n) r k (Refused v) (view n)) (sym s) (no_node n (Router r) none, same_as_itself (view n))
route_steps n r k answer net is = absurd is

-- ---- partitions

pub serve_steps : (n : NetValue) (p k after : ℕ) (answer : Answer) → IsNet n → IsServeIn n p k after answer → ServeStep (view n) p k after answer (view n)
serve_steps n p k after (Served reply) net (at, peer, a, h, r) =
    let law = serves_by_step (view n) p k after a reply (part_stands n p at peer a net h) (part_valid n p at peer a net h).1 r in
    subst (Step (view n) (Serve p k after) (Served reply)) law.2 law.1
serve_steps n p k after (Refused e) net (none, s) = subst (λ v. ServeStep (view n) p k after (Refused v) (view n)) (sym s) (no_node n (Part p) none, same_as_itself (view n))
serve_steps n p k after answer net is = absurd is
