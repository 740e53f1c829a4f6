-- What is seen of a world to which partitions came.
use Rattle.std.proofs.Common.{◌≡◌, ℕ, zero, suc, ◌+◌, ◌<◌, ◌≤◌, ◌==◌, nat_lt, Bool, true, false, cond, List, [], ◌∷◌, ◌++◌, length, map, Option, None, Some, position, refl, sym, ap, ◌∙◌, arith}
use Rattle.std.specs.List.{slice_get, flat_map, list_any, AllByRecursion}
use Rattle.std.proofs.lemmas.List.{length-append}
use Rattle.std.proofs.lemmas.Option.{same_Some}
use Rattle.squall_course.specs.Change.{Change}
use Rattle.squall_board.specs.Boards.{board_join}
use Rattle.squall_board.specs.BoardQueries.{queries_of}
use Rattle.squall_protocol.specs.declared.event.Node.{Node}
use Rattle.squall_protocol.specs.declared.event.Node.TheVariants.{Leader, Part, Router}
use Rattle.squall_world.specs.Nets.{PeerValue, NetValue, MessageValue, IsMessage, told_with, IsNet, place_of, peer_of, at_place, is_part_peer}
use Rattle.squall_world.specs.Views.{id_of, ids_in, told_by_message}
use Rattle.squall_world.specs.Events.{part_peers}
use Rattle.squall_world.proofs.Lists.{below, get_left, within}
use Rattle.squall_world.proofs.Told.{told_new}
use Rattle.squall_world.proofs.Coming.{comer, stays, comes}

-- nodes came at the end
pub record IsAdded (n m : NetValue) (first : Change) (ids : List ℕ) : Type 0 where
  pub peers : m.peers ≡ n.peers ++ part_peers first ids
  pub routers : m.routers ≡ n.routers
  pub room : n.routers < length n.peers

-- what is seen of a node is kept, where nothing is seen of those that came
pub added_node : {A : Type 0} (f : Option PeerValue → A) (n m : NetValue) (first : Change) (ids : List ℕ) → IsAdded n m first ids → ((p : ℕ) → place_of n (Part p) ≡ None → f (Some (comer first p)) ≡ f None) → (y : Node) → f (peer_of m y) ≡ f (peer_of n y)
added_node f n m first ids is none Leader =
    let room : n.routers < length n.peers = is.room in
    ap (λ ps. f (slice_get ps 0)) is.peers ∙ ap f (get_left n.peers (part_peers first ids) 0 (omega (arith, room)))
added_node f n m first ids is none (Router r) = (λ i. f (at_place (is.peers i) (cond (nat_lt r (is.routers i)) (Some (r + 1)) None))) ∙ by (nat_lt r n.routers) refl
  where
    by : (b : Bool) → nat_lt r n.routers ≡ b → f (at_place (n.peers ++ part_peers first ids) (cond b (Some (r + 1)) None)) ≡ f (at_place n.peers (cond b (Some (r + 1)) None))
    by true e =
        let room : n.routers < length n.peers = is.room in
        let lt : r < n.routers = below r n.routers e in
        ap f (get_left n.peers (part_peers first ids) (r + 1) (omega (arith, room, lt)))
    by false e = refl
added_node f n m first ids is none (Part p) = ap (λ ps. f (at_place ps (position (is_part_peer p) ps))) is.peers ∙ by (position (is_part_peer p) n.peers) refl
  where
    either : (b : Bool) → f (Some (comer first p)) ≡ f None → f (cond b (Some (comer first p)) None) ≡ f None
    either true e = e
    either false e = refl

    by : (o : Option ℕ) → position (is_part_peer p) n.peers ≡ o → f (at_place (n.peers ++ part_peers first ids) (position (is_part_peer p) (n.peers ++ part_peers first ids))) ≡ f (at_place n.peers (position (is_part_peer p) n.peers))
    by (Some i) e = ap f (stays n.peers (part_peers first ids) p i e)
    by None e = ap f (comes n.peers first ids p e) ∙ either (list_any (λ q. q == p) ids) (none p e) ∙ ap (λ o. f (at_place n.peers o)) (sym e)

-- messages tell what they told
pub added_messages : (n m : NetValue) (first : Change) (ids : List ℕ) → IsAdded n m first ids → (ms : List MessageValue) → AllByRecursion (IsMessage n.peers) ms → map (told_by_message m) ms ≡ map (told_by_message n) ms
added_messages n m first ids is [] all = refl
added_messages n m first ids is (x ∷ ms) all =
    let one : told_by_message m x ≡ told_by_message n x = ap (λ ps. queries_of (told_with ps x.known x.extra)) is.peers
    ∙ ap (λ v. queries_of (board_join v x.extra)) (told_new n.peers (part_peers first ids) x.known all.0.within) in
    λ i. one i ∷ added_messages n m first ids is ms all.1 i

-- ---- how many there are

count_parts : (xs : List PeerValue) (r : ℕ) → ((i : ℕ) (x : PeerValue) → slice_get xs i ≡ Some x → i < r → length (id_of x.role) ≡ 0) → ((i : ℕ) (x : PeerValue) → slice_get xs i ≡ Some x → r ≤ i → length (id_of x.role) ≡ 1) → r ≤ length xs → length (flat_map (λ (x : PeerValue). id_of x.role) xs) + r ≡ length xs
count_parts [] r none one le = omega (arith, le)
count_parts (x ∷ xs) zero none one le =
    let here = one 0 x refl (omega arith) in
    let rest = count_parts xs zero (λ i y e lt. absurd (omega (arith, lt))) (λ i y e le. one (suc i) y e (omega arith)) (omega arith) in
    let all = length-append (id_of x.role) (flat_map (λ (x : PeerValue). id_of x.role) xs) in
    omega (arith, here, rest, all)
count_parts (x ∷ xs) (suc r) none one le =
    let here = none 0 x refl (omega arith) in
    let rest = count_parts xs r (λ i y e lt. none (suc i) y e (omega (arith, lt))) (λ i y e le. one (suc i) y e (omega (arith, le))) (omega (arith, le)) in
    let all = length-append (id_of x.role) (flat_map (λ (x : PeerValue). id_of x.role) xs) in
    omega (arith, here, rest, all)

-- the nodes are the leader, the routers and the partitions
pub nodes_counted : (n : NetValue) → IsNet n → length (ids_in n) + n.routers + 1 ≡ length n.peers
nodes_counted n net =
    let room : n.routers < length n.peers = net.room in
    let all = count_parts n.peers (n.routers + 1) none one (omega (arith, room)) in
    omega (arith, all)
  where
    none : (i : ℕ) (x : PeerValue) → slice_get n.peers i ≡ Some x → i < n.routers + 1 → length (id_of x.role) ≡ 0
    none zero x e lt = ap (λ (y : PeerValue). length (id_of y.role)) (same_Some x net.led.peer (sym e ∙ net.led.there)) ∙ ap (λ r. length (id_of r)) net.led.role
    none (suc i) x e lt =
        let at = net.routers (suc i) (omega arith) (omega (arith, lt)) in
        ap (λ (y : PeerValue). length (id_of y.role)) (same_Some x at.peer (sym e ∙ at.there)) ∙ ap (λ r. length (id_of r)) at.role

    one : (i : ℕ) (x : PeerValue) → slice_get n.peers i ≡ Some x → n.routers + 1 ≤ i → length (id_of x.role) ≡ 1
    one i x e le =
        let at = net.parts i (omega (arith, le)) (within n.peers i x e) in
        ap (λ (y : PeerValue). length (id_of y.role)) (same_Some x at.peer (sym e ∙ at.there)) ∙ ap (λ r. length (id_of r)) at.role
