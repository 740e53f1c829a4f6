-- Where nodes stand: each at its own place, and what stands there after one of them changed.
use Rattle.std.proofs.Common.{◌≡◌, ℕ, ◌+◌, ◌<◌, ◌==◌, Bool, true, false, cond, nat_lt, List, [], ◌∷◌, ◌++◌, length, Option, None, Some, refl, sym, ap, subst, ◌∙◌, arith, inl, inr}
use Rattle.std.specs.Prelude.{◌||◌, is_some, slice_index_or}
use Rattle.std.specs.List.{slice_get, flat_map, list_any}
use Rattle.std.proofs.lemmas.Bool.{cases_lt}
use Rattle.std.proofs.lemmas.Bool.Decides.{nat_tests}
use Rattle.std.proofs.lemmas.Option.{same_Some, none-some}
use Rattle.squall_key.specs.Keys.{part_limit}
use Rattle.squall_course.specs.Change.{Change}
use Rattle.squall_router.specs.Routers.{RouterValue}
use Rattle.squall_part.specs.Parts.{PartValue}
use Rattle.squall_leader.specs.Leaders.{LeaderValue}
use Rattle.squall_protocol.specs.declared.event.Node.{Node}
use Rattle.squall_protocol.specs.declared.event.Node.TheVariants.{Leader, Part, Router}
use Rattle.squall_protocol.specs.Worlds.{same_node, is_part, is_node, first_course}
use Rattle.squall_world.specs.declared.peer.Role.{Role}
use Rattle.squall_world.specs.declared.peer.Role.TheVariants.{Leader as LeaderRole, Part as PartRole, Router as RouterRole}
use Rattle.squall_world.specs.Nets.{PeerValue, NetValue, with_peer, IsNet, IsLed, IsRouterAt, IsPartAt, place_of, peer_of, IsChain, no_course, at_place, put_at, is_part_role, is_part_peer, first_of}
use Rattle.squall_world.specs.Views.{view, id_of, part_of}
use Rattle.squall_nodes.proofs.Agree.{same_refl}
use Rattle.squall_world.proofs.Courses.{get_any}
use Rattle.squall_world.proofs.Lists.{eq_same, put_here, put_there, place_put, place_found, place_is, within}

true_false : true ≡ false → ⊥
true_false e = cc

-- ---- what stands at a place

-- a partition stands beyond the routers
pub record IsThere (n : NetValue) (p i : ℕ) : Type 0 where
  pub peer : PeerValue
  pub part : PartValue
  pub there : slice_get n.peers i ≡ Some peer
  pub role : peer.role ≡ PartRole part
  pub id : part.id ≡ p
  pub first : part.first ≡ first_of n
  pub limit : part.id < part_limit
  pub after : n.routers < i

no_part_leader : (n : NetValue) (p : ℕ) (x : PeerValue) → IsLed n → slice_get n.peers 0 ≡ Some x → is_part_peer p x ≡ true → ⊥
no_part_leader n p x led e is =
    true_false (sym is ∙ ap (is_part_peer p) (same_Some x led.peer (sym e ∙ led.there)) ∙ ap (is_part_role p) led.role)

no_part_router : (n : NetValue) (p i : ℕ) (x : PeerValue) → IsRouterAt n i → slice_get n.peers i ≡ Some x → is_part_peer p x ≡ true → ⊥
no_part_router n p i x at e is =
    true_false (sym is ∙ ap (is_part_peer p) (same_Some x at.peer (sym e ∙ at.there)) ∙ ap (is_part_role p) at.role)

part_is : (n : NetValue) (p i : ℕ) (x : PeerValue) → n.routers < i → IsPartAt n i → slice_get n.peers i ≡ Some x → is_part_peer p x ≡ true → IsThere n p i
part_is n p i x after at e is = record {
  peer = at.peer;
  part = at.part;
  there = at.there;
  role = at.role;
  id = eq_same at.part.id p (sym (ap (is_part_role p) at.role) ∙ ap (is_part_peer p) (same_Some at.peer x (sym at.there ∙ e)) ∙ is);
  first = at.first;
  limit = at.limit;
  after = after;
}

pub part_there : (n : NetValue) (p i : ℕ) → IsNet n → place_of n (Part p) ≡ Some i → IsThere n p i
part_there n p i net e =
    let found = place_found (is_part_peer p) n.peers i e in
    elim (cases_lt n.routers i) [
      | inl lt ↦ part_is n p i found.0 lt (net.parts i lt (within n.peers i found.0 found.1)) found.1 found.2
      | inr le ↦ elim (cases_lt 0 i) [
        | inl some ↦ absurd (no_part_router n p i found.0 (net.routers i some le) found.1 found.2)
        | inr none ↦ absurd (let z : i ≡ 0 = omega (arith, none) in no_part_leader n p found.0 net.led (ap (slice_get n.peers) (sym z) ∙ found.1) found.2)
      ]
    ]

pub router_place : (n : NetValue) (r i : ℕ) → place_of n (Router r) ≡ Some i → (r < n.routers) × (i ≡ r + 1)
router_place n r i e = by (nat_lt r n.routers) refl e
  where
    by : (b : Bool) → nat_lt r n.routers ≡ b → cond b (Some (r + 1)) None ≡ Some i → (r < n.routers) × (i ≡ r + 1)
    by true lt e = (grind (arith, nat_tests), sym (same_Some (r + 1) i e))
    by false lt e = absurd (none-some i e)

abbrev unrole : PartValue → Role → PartValue
unrole d (LeaderRole l) = d
unrole d (PartRole v) = v
unrole d (RouterRole r) = d

pub part_same : (v w : PartValue) → PartRole v ≡ PartRole w → v ≡ w
part_same v w e = ap (unrole v) e

abbrev unlead : LeaderValue → Role → LeaderValue
unlead d (LeaderRole l) = l
unlead d (PartRole v) = d
unlead d (RouterRole r) = d

pub leader_same : (v w : LeaderValue) → LeaderRole v ≡ LeaderRole w → v ≡ w
leader_same v w e = ap (unlead v) e

abbrev unroute : RouterValue → Role → RouterValue
unroute d (LeaderRole l) = d
unroute d (PartRole v) = d
unroute d (RouterRole r) = r

pub router_same : (v w : RouterValue) → RouterRole v ≡ RouterRole w → v ≡ w
router_same v w e = ap (unroute v) e

-- two nodes at one place are one
pub same_place : (n : NetValue) (a b : Node) (i : ℕ) → IsNet n → place_of n a ≡ Some i → place_of n b ≡ Some i → a ≡ b
same_place n Leader Leader i net d e = refl
same_place n Leader (Part q) i net d e = absurd (let z : 0 ≡ i = same_Some 0 i d in let h = (part_there n q i net e).after in omega (arith, h, z))
same_place n Leader (Router s) i net d e = absurd (let z : 0 ≡ i = same_Some 0 i d in let h = (router_place n s i e).1 in omega (arith, h, z))
same_place n (Part p) Leader i net d e = absurd (let z : 0 ≡ i = same_Some 0 i e in let h = (part_there n p i net d).after in omega (arith, h, z))
same_place n (Part p) (Part q) i net d e =
    let x = part_there n p i net d in
    let y = part_there n q i net e in
    ap Part (sym x.id ∙ ap (λ v. v.id) (part_same x.part y.part (sym x.role ∙ ap (λ v. v.role) (same_Some x.peer y.peer (sym x.there ∙ y.there)) ∙ y.role)) ∙ y.id)
same_place n (Part p) (Router s) i net d e = absurd (let h = (part_there n p i net d).after in let r = router_place n s i e in let lt = r.0 in let at = r.1 in omega (arith, h, lt, at))
same_place n (Router r) Leader i net d e = absurd (let z : 0 ≡ i = same_Some 0 i e in let h = (router_place n r i d).1 in omega (arith, h, z))
same_place n (Router r) (Part q) i net d e = absurd (let h = (part_there n q i net e).after in let x = router_place n r i d in let lt = x.0 in let at = x.1 in omega (arith, h, lt, at))
same_place n (Router r) (Router s) i net d e = let x = (router_place n r i d).1 in let y = (router_place n s i e).1 in ap Router (omega (arith, x, y))

pub same_is : (a b : Node) → same_node a b ≡ true → a ≡ b
same_is Leader Leader e = refl
same_is Leader (Part q) e = absurd (true_false (sym e))
same_is Leader (Router s) e = absurd (true_false (sym e))
same_is (Part p) Leader e = absurd (true_false (sym e))
same_is (Part p) (Part q) e = ap Part (eq_same p q e)
same_is (Part p) (Router s) e = absurd (true_false (sym e))
same_is (Router r) Leader e = absurd (true_false (sym e))
same_is (Router r) (Part q) e = absurd (true_false (sym e))
same_is (Router r) (Router s) e = ap Router (eq_same r s e)

-- ---- which nodes there are

is_id : (p : ℕ) (r : Role) (rest : List ℕ) → list_any (λ q. q == p) (id_of r ++ rest) ≡ (is_part_role p r || list_any (λ q. q == p) rest)
is_id p (LeaderRole l) rest = refl
is_id p (PartRole v) rest = refl
is_id p (RouterRole r) rest = refl

ids_any : (p : ℕ) (xs : List PeerValue) → list_any (λ q. q == p) (flat_map (λ x. id_of x.role) xs) ≡ list_any (is_part_peer p) xs
ids_any p [] = refl
ids_any p (x ∷ xs) = is_id p x.role (flat_map (λ x. id_of x.role) xs) ∙ ap (λ b. is_part_peer p x || b) (ids_any p xs)

pub part_seen_there : (n : NetValue) (p : ℕ) → is_part (view n) p ≡ is_some (place_of n (Part p))
part_seen_there n p = ids_any p n.peers ∙ place_is (is_part_peer p) n.peers

pub node_seen_there : (n : NetValue) (x : Node) → is_node (view n) x ≡ is_some (place_of n x)
node_seen_there n Leader = refl
node_seen_there n (Part p) = part_seen_there n p
node_seen_there n (Router r) = by (nat_lt r n.routers)
  where
    by : (b : Bool) → b ≡ is_some (cond b (Some (r + 1)) None)
    by true = refl
    by false = refl

pub node_there : (n : NetValue) (x : Node) (i : ℕ) → place_of n x ≡ Some i → is_node (view n) x ≡ true
node_there n x i e = node_seen_there n x ∙ ap is_some e

pub no_node : (n : NetValue) (x : Node) → place_of n x ≡ None → is_node (view n) x ≡ false
no_node n x e = node_seen_there n x ∙ ap is_some e

-- ---- one node changed

-- the node at the place is another thing now, of its kind
pub record IsChanged (n : NetValue) (x : Node) (at : ℕ) (a c : PeerValue) : Type 0 where
  pub place : place_of n x ≡ Some at
  pub there : slice_get n.peers at ≡ Some a
  pub kind : (p : ℕ) → is_part_peer p c ≡ is_part_peer p a
  pub ids : id_of c.role ≡ id_of a.role

pub place_kept : (n : NetValue) (x : Node) (at : ℕ) (a c : PeerValue) → IsChanged n x at a c → (y : Node) → place_of (with_peer n at c) y ≡ place_of n y
place_kept n x at a c ch Leader = refl
place_kept n x at a c ch (Part p) = place_put (is_part_peer p) at c a n.peers ch.there (ch.kind p)
place_kept n x at a c ch (Router r) = refl

-- what holds of the changed node, and of each other as it was, holds of each
pub each_node : (n : NetValue) (x : Node) (at : ℕ) (a c : PeerValue) → IsNet n → IsChanged n x at a c → (P : Node → Option PeerValue → Type 0) → P x (Some c) → ((y : Node) → same_node y x ≡ false → P y (peer_of n y)) → (y : Node) → P y (peer_of (with_peer n at c) y)
each_node n x at a c net ch P here other y = by (same_node y x) refl
  where
    m : NetValue
    m = with_peer n at c

    here_peer : peer_of (with_peer n at c) x ≡ Some c
    here_peer = ap (at_place (put_at at c n.peers)) (place_kept n x at a c ch x ∙ ch.place) ∙ put_here at c a n.peers ch.there

    elsewhere : (o : Option ℕ) → place_of n y ≡ o → same_node y x ≡ false → at_place (put_at at c n.peers) o ≡ at_place n.peers o
    elsewhere None e f = refl
    elsewhere (Some j) e f = put_there at j c n.peers (λ s. true_false (sym (ap (λ z. same_node z x) (same_place n y x at net (e ∙ ap Some s) ch.place) ∙ same_refl x) ∙ f))

    by : (b : Bool) → same_node y x ≡ b → P y (peer_of (with_peer n at c) y)
    by true e = subst (λ z. P z (peer_of (with_peer n at c) z)) (sym (same_is y x e)) (subst (P x) (sym here_peer) here)
    by false e = subst (P y) (sym (ap (at_place (put_at at c n.peers)) (place_kept n x at a c ch y) ∙ elsewhere (place_of n y) refl e)) (other y e)

-- the motive of a fact on partitions
abbrev pub at_part : (ℕ → Option PartValue → Type 0) → Node → Option PeerValue → Type 0
at_part P Leader o = Unit {0}
at_part P (Part q) o = P q (part_of o)
at_part P (Router r) o = Unit {0}

pub each_part : (n : NetValue) (p at : ℕ) (a c : PeerValue) → IsNet n → IsChanged n (Part p) at a c → (P : ℕ → Option PartValue → Type 0) → P p (part_of (Some c)) → ((q : ℕ) → (q == p) ≡ false → P q (part_of (peer_of n (Part q)))) → (q : ℕ) → P q (part_of (peer_of (with_peer n at c) (Part q)))
each_part n p at a c net ch P here other q = each_node n (Part p) at a c net ch (at_part P) here others (Part q)
  where
    others : (y : Node) → same_node y (Part p) ≡ false → at_part P y (peer_of n y)
    others Leader e = tt
    others (Part q) e = other q e
    others (Router r) e = tt

-- ---- the first course

chain_first : (cs : List Change) → 0 < length cs → IsChain 1 cs → (slice_index_or cs 0 no_course).number ≡ 1
chain_first [] some chain = absurd (omega arith)
chain_first (c ∷ cs) some chain = chain.0

pub first_number : (n : NetValue) → IsNet n → (first_of n).number ≡ 1
first_number n net = chain_first n.courses net.some net.chain

pub first_seen : (n : NetValue) → IsNet n → first_course (view n) ≡ first_of n
first_seen n net = λ i. record { number = sym (first_number n net) i; old = (get_any n.courses 0 (first_of n) no_course net.some i).old; new = (get_any n.courses 0 (first_of n) no_course net.some i).new }
