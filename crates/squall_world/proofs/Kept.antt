-- What always holds, where one node becomes another thing of its kind, and messages and chunks are others.
use Rattle.std.proofs.Common.{◌≡◌, ℕ, ◌<◌, ◌==◌, Bool, true, false, List, [], ◌∷◌, Some, refl, sym, ap, subst, ◌∙◌}
use Rattle.std.specs.Prelude.{is_some}
use Rattle.std.specs.List.{slice_get}
use Rattle.std.proofs.lemmas.Option.{same_Some}
use Rattle.squall_key.specs.Keys.{part_limit}
use Rattle.squall_protocol.specs.Chunks.{ChunkValue}
use Rattle.squall_part.specs.Parts.{PartValue}
use Rattle.squall_router.specs.Routers.{RouterValue}
use Rattle.squall_leader.specs.Leaders.{LeaderValue}
use Rattle.squall_protocol.specs.declared.event.Node.{Node}
use Rattle.squall_protocol.specs.declared.event.Node.TheVariants.{Part}
use Rattle.squall_world.specs.declared.peer.Role.{Role}
use Rattle.squall_world.specs.declared.peer.Role.TheVariants.{Leader as LeaderRole, Part as PartRole, Router as RouterRole}
use Rattle.squall_world.specs.Nets.{PeerValue, NetValue, MessageValue, with_peer, IsNet, IsLed, IsRouterAt, IsPartAt, place_of, put_at, is_part_role}
use Rattle.squall_world.specs.Views.{id_of}
use Rattle.squall_world.proofs.Lists.{eq_same, eq_apart, length_put, put_here, put_there}
use Rattle.squall_world.proofs.Nodes.{IsChanged, place_kept}
use Rattle.squall_world.proofs.History.{IsHistory, IsMore, history_of, history_more}

-- the second is of the kind of the first: a leader with its course, a partition of its number and first course, or a router of its first course
abbrev pub SameKind : Role → Role → Type 0
SameKind (LeaderRole a) (LeaderRole b) = b.course ≡ a.course
SameKind (PartRole a) (PartRole b) = (b.id ≡ a.id) × (b.first ≡ a.first)
SameKind (RouterRole a) (RouterRole b) = b.first ≡ a.first
SameKind _ _ = ⊥

same_test : (p : ℕ) (r s : Role) → SameKind r s → is_part_role p s ≡ is_part_role p r
same_test p (LeaderRole a) (LeaderRole b) k = refl
same_test p (LeaderRole a) (PartRole b) k = absurd k
same_test p (LeaderRole a) (RouterRole b) k = absurd k
same_test p (PartRole a) (LeaderRole b) k = absurd k
same_test p (PartRole a) (PartRole b) k = ap (λ v. v == p) k.0
same_test p (PartRole a) (RouterRole b) k = absurd k
same_test p (RouterRole a) (LeaderRole b) k = absurd k
same_test p (RouterRole a) (PartRole b) k = absurd k
same_test p (RouterRole a) (RouterRole b) k = refl

same_ids : (r s : Role) → SameKind r s → id_of s ≡ id_of r
same_ids (LeaderRole a) (LeaderRole b) k = refl
same_ids (LeaderRole a) (PartRole b) k = absurd k
same_ids (LeaderRole a) (RouterRole b) k = absurd k
same_ids (PartRole a) (LeaderRole b) k = absurd k
same_ids (PartRole a) (PartRole b) k = ap (λ v. v ∷ []) k.0
same_ids (PartRole a) (RouterRole b) k = absurd k
same_ids (RouterRole a) (LeaderRole b) k = absurd k
same_ids (RouterRole a) (PartRole b) k = absurd k
same_ids (RouterRole a) (RouterRole b) k = refl

pub changed : (n : NetValue) (x : Node) (at : ℕ) (a c : PeerValue) → place_of n x ≡ Some at → slice_get n.peers at ≡ Some a → SameKind a.role c.role → IsChanged n x at a c
changed n x at a c place there kind = record { place = place; there = there; kind = λ p. same_test p a.role c.role kind; ids = same_ids a.role c.role kind }

still_leader : (r s : Role) (l : LeaderValue) → r ≡ LeaderRole l → SameKind r s → (k : LeaderValue) × (s ≡ LeaderRole k) × (k.course ≡ l.course)
still_leader r s l e k = by s (subst (λ v. SameKind v s) e k)
  where
    by : (s : Role) → SameKind (LeaderRole l) s → (k : LeaderValue) × (s ≡ LeaderRole k) × (k.course ≡ l.course)
    by (LeaderRole b) k = (b, refl, k)
    by (PartRole b) k = absurd k
    by (RouterRole b) k = absurd k

still_part : (r s : Role) (l : PartValue) → r ≡ PartRole l → SameKind r s → (k : PartValue) × (s ≡ PartRole k) × (k.id ≡ l.id) × (k.first ≡ l.first)
still_part r s l e k = by s (subst (λ v. SameKind v s) e k)
  where
    by : (s : Role) → SameKind (PartRole l) s → (k : PartValue) × (s ≡ PartRole k) × (k.id ≡ l.id) × (k.first ≡ l.first)
    by (LeaderRole b) k = absurd k
    by (PartRole b) k = (b, refl, k.0, k.1)
    by (RouterRole b) k = absurd k

still_router : (r s : Role) (l : RouterValue) → r ≡ RouterRole l → SameKind r s → (k : RouterValue) × (s ≡ RouterRole k) × (k.first ≡ l.first)
still_router r s l e k = by s (subst (λ v. SameKind v s) e k)
  where
    by : (s : Role) → SameKind (RouterRole l) s → (k : RouterValue) × (s ≡ RouterRole k) × (k.first ≡ l.first)
    by (LeaderRole b) k = absurd k
    by (PartRole b) k = absurd k
    by (RouterRole b) k = (b, refl, k)

-- the same nodes, with other messages and chunks
abbrev pub with_rest : NetValue → List MessageValue → List ChunkValue → NetValue
with_rest n ms cs = record n { messages = ms; chunks = cs }

pub rest_net : (n : NetValue) (ms : List MessageValue) (cs : List ChunkValue) → IsNet n → IsHistory n.peers ms → IsNet (with_rest n ms cs)
rest_net n ms cs net h = record {
  some = net.some;
  chain = net.chain;
  ended = net.ended;
  led = record { peer = net.led.peer; leader = net.led.leader; there = net.led.there; role = net.led.role; course = net.led.course };
  room = net.room;
  routers = λ i some le. let r = net.routers i some le in record { peer = r.peer; router = r.router; there = r.there; role = r.role; first = r.first };
  parts = λ i gt lt. let p = net.parts i gt lt in record { peer = p.peer; part = p.part; there = p.there; role = p.role; first = p.first; limit = p.limit; place = p.place };
  named = net.named;
  placed = record { length = net.placed.length; each = net.placed.each };
  peers = h.peers;
  knowing = h.knowing;
  messages = h.messages;
}

module _ (n : NetValue) (x : Node) (at : ℕ) (a c : PeerValue) (net : IsNet n) (ch : IsChanged n x at a c) (kind : SameKind a.role c.role) where
  led : IsLed (with_peer n at c)
  led = by (0 == at) refl
    where
      by : (b : Bool) → (0 == at) ≡ b → IsLed (with_peer n at c)
      by true e =
          let z : 0 ≡ at = eq_same 0 at e in
          let s : a ≡ net.led.peer = same_Some a net.led.peer (sym ch.there ∙ ap (slice_get n.peers) (sym z) ∙ net.led.there) in
          let k = still_leader a.role c.role net.led.leader (ap (λ v. v.role) s ∙ net.led.role) kind in
          record { peer = c; leader = k.0; there = ap (slice_get (put_at at c n.peers)) z ∙ put_here at c a n.peers ch.there; role = k.1; course = k.2 ∙ net.led.course }
      by false e = record { peer = net.led.peer; leader = net.led.leader; there = put_there at 0 c n.peers (eq_apart 0 at e) ∙ net.led.there; role = net.led.role; course = net.led.course }

  router_at : (i : ℕ) → IsRouterAt n i → IsRouterAt (with_peer n at c) i
  router_at i r = by (i == at) refl
    where
      by : (b : Bool) → (i == at) ≡ b → IsRouterAt (with_peer n at c) i
      by true e =
          let z : i ≡ at = eq_same i at e in
          let s : a ≡ r.peer = same_Some a r.peer (sym ch.there ∙ ap (slice_get n.peers) (sym z) ∙ r.there) in
          let k = still_router a.role c.role r.router (ap (λ v. v.role) s ∙ r.role) kind in
          record { peer = c; router = k.0; there = ap (slice_get (put_at at c n.peers)) z ∙ put_here at c a n.peers ch.there; role = k.1; first = k.2 ∙ r.first }
      by false e = record { peer = r.peer; router = r.router; there = put_there at i c n.peers (eq_apart i at e) ∙ r.there; role = r.role; first = r.first }

  part_at : (i : ℕ) → IsPartAt n i → IsPartAt (with_peer n at c) i
  part_at i r = by (i == at) refl
    where
      by : (b : Bool) → (i == at) ≡ b → IsPartAt (with_peer n at c) i
      by true e =
          let z : i ≡ at = eq_same i at e in
          let s : a ≡ r.peer = same_Some a r.peer (sym ch.there ∙ ap (slice_get n.peers) (sym z) ∙ r.there) in
          let k = still_part a.role c.role r.part (ap (λ v. v.role) s ∙ r.role) kind in
          record {
            peer = c;
            part = k.0;
            there = ap (slice_get (put_at at c n.peers)) z ∙ put_here at c a n.peers ch.there;
            role = k.1;
            first = k.3 ∙ r.first;
            limit = subst (λ v. v < part_limit) (sym k.2) r.limit;
            place = place_kept n x at a c ch (Part k.0.id) ∙ ap (λ v. place_of n (Part v)) k.2 ∙ r.place;
          }
      by false e = record {
        peer = r.peer;
        part = r.part;
        there = put_there at i c n.peers (eq_apart i at e) ∙ r.there;
        role = r.role;
        first = r.first;
        limit = r.limit;
        place = place_kept n x at a c ch (Part r.part.id) ∙ r.place;
      }

  pub changed_net : IsMore n.peers at a c → IsNet (with_peer n at c)
  changed_net more =
      let h = history_more n.peers n.messages at a c (history_of n net) more in
      let l = length_put at c n.peers in
      record {
        some = net.some;
        chain = net.chain;
        ended = net.ended;
        led = led;
        room = subst (λ v. n.routers < v) (sym l) net.room;
        routers = λ i some le. router_at i (net.routers i some le);
        parts = λ i gt lt. part_at i (net.parts i gt (subst (λ v. i < v) l lt));
        named = λ p named. ap is_some (place_kept n x at a c ch (Part p)) ∙ net.named p named;
        placed = record { length = net.placed.length; each = λ p lt. net.placed.each p lt ∙ ap Some (sym (place_kept n x at a c ch (Part p))) };
        peers = h.peers;
        knowing = h.knowing;
        messages = h.messages;
      }
