-- Where nodes stand, and lists of which one element is another.
use Rattle.std.proofs.Common.{◌≡◌, ℕ, ◌+◌, ◌<◌, ◌≤◌, true, List, [], ◌∷◌, length, get_or, set, Some, zero, suc, refl, sym, ap, subst, ◌∙◌, ltb, arith}
use Rattle.std.specs.List.{slice_get, AllByRecursion}
use Rattle.std.proofs.lemmas.Bool.{eqb-true, ltb-true, false≢true}
use Rattle.std.proofs.lemmas.List.Quantifiers.{position-Some}
use Rattle.std.proofs.lemmas.Option.{slice_get-get_or, get_or_from_slice_get, cond_some, none-some, same_Some}
use Rattle.squall_course.specs.Change.{Change}
use Rattle.squall_part.specs.Parts.{PartValue}
use Rattle.squall_router.specs.Routers.{RouterValue}
use Rattle.squall_leader.specs.Leaders.{LeaderValue, IsLeader}
use Rattle.squall_protocol.specs.declared.event.Node.TheVariants.{Part, Router}
use Rattle.squall_world.specs.declared.peer.Role.{Role}
use Rattle.squall_world.specs.declared.peer.Role.TheVariants.{Leader as LeaderRole, Part as PartRole, Router as RouterRole}
use Rattle.squall_world.specs.Nets.{PeerValue, NetValue, is_part_role, is_part_peer, place_of, put_at, IsNet, IsRouterAt, IsPeer, IsRole, newest_of, first_of, no_course}
use Rattle.squall_world.specs.Acts.{IsPartPeer, IsLeaderPeer}
use Rattle.squall_world.specs.Events.{HasPart}

-- the list with another element at a place, as std has it
pub put_is : {A : Type 0} (i : ℕ) (x : A) (xs : List A) → set xs i x ≡ put_at i x xs
put_is i x [] = refl
put_is zero x (y ∷ ys) = refl
put_is (suc i) x (y ∷ ys) = ap (λ zs. y ∷ zs) (put_is i x ys)

-- what stands there already changes nothing
pub put_same : {A : Type 0} (i : ℕ) (x : A) (xs : List A) → slice_get xs i ≡ Some x → put_at i x xs ≡ xs
put_same i x [] there = refl
put_same zero x (y ∷ ys) there = ap (λ z. z ∷ ys) (sym (cc))
put_same (suc i) x (y ∷ ys) there = ap (λ zs. y ∷ zs) (put_same i x ys there)

-- a node that is the partition of a number
part_of_role : (p : ℕ) (r : Role) → is_part_role p r ≡ true → (a : PartValue) × (r ≡ PartRole a) × (a.id ≡ p)
part_of_role p (LeaderRole l) is = absurd (false≢true is)
part_of_role p (PartRole a) is = (a, refl, eqb-true a.id p is)
part_of_role p (RouterRole r) is = absurd (false≢true is)

-- what is read at the place of a partition is that partition
module _ (n : NetValue) (p at : ℕ) (peer : PeerValue) (place : place_of n (Part p) ≡ Some at) (read : peer ≡ get_or n.peers at peer) where
  found : (at < length n.peers) × (is_part_peer p peer ≡ true)
  found = let f = position-Some (is_part_peer p) n.peers at peer place in (f.0, ap (is_part_peer p) read ∙ f.1)

  pub part_there : slice_get n.peers at ≡ Some peer
  part_there = slice_get-get_or n.peers at peer found.0 ∙ ap Some (sym read)

  pub part_within : at < length n.peers
  part_within = found.0

  pub part_peer : IsPartPeer peer
  part_peer = let r = part_of_role p peer.role found.1 in record { part = r.0; role = r.1 }

  pub has_part : (a : PartValue) → peer.role ≡ PartRole a → HasPart n p at peer a
  has_part a role =
      let r = part_of_role p peer.role found.1 in
      record { place = place; there = part_there; role = role; id = ap (λ (b : PartValue). b.id) (same_part (sym role ∙ r.1)) ∙ r.2 }
    where
      same_part : {x y : PartValue} → PartRole x ≡ PartRole y → x ≡ y
      same_part h = cc

-- what is read at a place is what stands there
pub read_is : {A : Type 0} (xs : List A) (i : ℕ) (x y : A) → slice_get xs i ≡ Some y → x ≡ get_or xs i x → x ≡ y
read_is xs i x y there read = read ∙ get_or_from_slice_get xs i y x there

-- what is read at the place of a router is a router
module _ (n : NetValue) (r at : ℕ) (peer : PeerValue) (is : IsNet n) (place : place_of n (Router r) ≡ Some at) (read : peer ≡ get_or n.peers at peer) where
  stands : IsRouterAt n at
  stands =
      let at-is = cond_some (ltb r n.routers) (r + 1) at place in
      let below = ltb-true r n.routers at-is.0 in
      let after : 0 < at = omega (arith, at-is.1) in
      let within : at ≤ n.routers = omega (arith, at-is.1, below) in
      is.routers at after within

  pub router_there : slice_get n.peers at ≡ Some peer
  router_there = let s = stands in s.there ∙ ap Some (sym (read_is n.peers at peer s.peer s.there read))

  pub router_peer : (a : RouterValue) × (peer.role ≡ RouterRole a)
  router_peer = let s = stands in (s.router, ap (λ (q : PeerValue). q.role) (read_is n.peers at peer s.peer s.there read) ∙ s.role)

-- what holds of each element holds of the one at a place
pub all_at : {A : Type 0} (P : A → Type 0) (xs : List A) (i : ℕ) (x : A) → AllByRecursion P xs → slice_get xs i ≡ Some x → P x
all_at P [] i x all is = absurd (none-some x is)
all_at P (y ∷ ys) zero x all is = subst P (same_Some y x is) all.0
all_at P (y ∷ ys) (suc i) x all is = all_at P ys i x all.1 is

-- what is read at 0 is the leader
module _ (n : NetValue) (peer : PeerValue) (is : IsNet n) (read : peer ≡ get_or n.peers 0 peer) where
  leads : peer ≡ is.led.peer
  leads = read_is n.peers 0 peer is.led.peer is.led.there read

  pub leader_there : slice_get n.peers 0 ≡ Some peer
  leader_there = is.led.there ∙ ap Some (sym leads)

  pub leader_role : peer.role ≡ LeaderRole is.led.leader
  leader_role = ap (λ (p : PeerValue). p.role) leads ∙ is.led.role

  pub leader_peer : IsLeaderPeer peer
  leader_peer = record { leader = is.led.leader; role = leader_role }

  -- it goes by the course begun last
  pub leader_course : (a : LeaderValue) → peer.role ≡ LeaderRole a → a.course ≡ Some (newest_of n)
  leader_course a role = let same : is.led.leader ≡ a = same_leader (sym leader_role ∙ role) in subst (λ (l : LeaderValue). l.course ≡ Some (newest_of n)) same is.led.course
    where
      same_leader : {x y : LeaderValue} → LeaderRole x ≡ LeaderRole y → x ≡ y
      same_leader h = cc

  -- and it is one
  pub leader_is : (a : LeaderValue) → peer.role ≡ LeaderRole a → IsLeader a
  leader_is a role = subst IsRole role (all_at IsPeer n.peers 0 peer is.peers leader_there).role

-- what is read at 0 is the first course
pub first_read : (n : NetValue) (c : Change) → IsNet n → c ≡ get_or n.courses 0 c → c ≡ first_of n
first_read n c is read = same_Some c (first_of n) (sym (slice_get-get_or n.courses 0 c is.some ∙ ap Some (sym read)) ∙ slice_get-get_or n.courses 0 no_course is.some)

-- two reads at 0 give one node
pub read_leader : (n : NetValue) (p q : PeerValue) → IsNet n → p ≡ get_or n.peers 0 p → q ≡ get_or n.peers 0 q → q ≡ p
read_leader n p q is read-p read-q = read_is n.peers 0 q is.led.peer is.led.there read-q ∙ sym (read_is n.peers 0 p is.led.peer is.led.there read-p)
