-- Moves that take keys of a range, and keys that leave it.
use Rattle.std.proofs.Common.{◌≡◌, ℕ, zero, suc, ◌<◌, ◌≤◌, ◌==◌, ◌&&◌, ◌||◌, nat_lt, Bool, true, false, List, [], ◌∷◌, length, take, get_or, Some, Result, Ok, Err, IfOk, refl, sym, ap, subst, ◌∙◌, ◌↔◌, IsTrue, inl, inr, arith}
use Rattle.std.specs.List.{list_any, slice_get, AllByRecursion}
use Rattle.std.specs.declared.alloc.AllocError.{AllocError}
use Rattle.std.proofs.lemmas.Option.{same_Some}
use Rattle.std.proofs.lemmas.Bool.{cases_lt, and_parts, and_from, or_cases, or_left, or_right, false≢true}
use Rattle.std.proofs.lemmas.Bool.Decides.{nat_tests}
use Rattle.squall_span.specs.Spans.{span_has}
use Rattle.squall_span.specs.SpanLaws.{inside}
use Rattle.squall_plan.specs.declared.range.PlanRange.{PlanRange}
use Rattle.squall_plan.specs.Ranges.{owner_of}
use Rattle.squall_course.specs.Change.{Change}
use Rattle.squall_course.specs.Subplans.{moves}
use Rattle.squall_course.specs.Moves.{IsMove, AreMoves, move_has, in_moves}
use Rattle.squall_course.specs.declared.moving.Move.{Move}
use Rattle.squall_course.proofs.Moved.{within as within_span}
use Rattle.squall_part.specs.Parts.{PartValue}
use Rattle.squall_protocol.specs.declared.event.Node.TheVariants.{Part}
use Rattle.squall_world.specs.declared.peer.Role.TheVariants.{Part as PartRole}
use Rattle.squall_world.specs.Nets.{NetValue, PeerValue, place_of, newest_of}
use Rattle.squall_world.specs.Acts.{IsPartPeer, Loses, HasKeys, takes}
use Rattle.squall_world.specs.Events.{HasPart, HasRange}
use Rattle.squall_world.proofs.Lists.{eq_same, eq_refl}
use Rattle.squall_world.proofs.Nodes.{part_same}
use Rattle.squall_world.proofs.Standing.{part_peer, has_part}

-- a move of a list that passes a test
record Passes (old new : List PlanRange) (test : Move → Bool) (ms : List Move) : Type 0 where
  move : Move
  is : IsMove old new move
  passes : test move ≡ true
  keys : (k : ℕ) → move_has k move ≡ true → in_moves k ms ≡ true

passing : (old new : List PlanRange) (test : Move → Bool) (ms : List Move) → AllByRecursion (IsMove old new) ms → list_any test ms ≡ true → Passes old new test ms
passing old new test [] all e = absurd (false≢true e)
passing old new test (m ∷ ms) all e = elim (or_cases (test m) (list_any test ms) e) [
  | inl here ↦ record { move = m; is = all.0; passes = here; keys = λ k h. or_left (move_has k m) (in_moves k ms) h }
  | inr later ↦
      let p = passing old new test ms all.1 later in
      record { move = p.move; is = p.is; passes = p.passes; keys = λ k h. or_right (move_has k m) (in_moves k ms) (p.keys k h) }
]

-- if each move with a key passes a test, so does some move, if the key lies in one
some_passes : (old new : List PlanRange) (test : Move → Bool) (k : ℕ) (ms : List Move) → AllByRecursion (IsMove old new) ms → ((m : Move) → IsMove old new m → move_has k m ≡ true → test m ≡ true) → in_moves k ms ≡ true → list_any test ms ≡ true
some_passes old new test k [] all each e = absurd (false≢true e)
some_passes old new test k (m ∷ ms) all each e = elim (or_cases (move_has k m) (in_moves k ms) e) [
  | inl here ↦ or_left (test m) (list_any test ms) (each m all.0 here)
  | inr later ↦ or_right (test m) (list_any test ms) (some_passes old new test k ms all.1 each later)
]

below : (a b : ℕ) → nat_lt a b ≡ true → a < b
below a b e = grind (arith, nat_tests)

test_below : (a b : ℕ) → a < b → nat_lt a b ≡ true
test_below a b lt = grind (arith, nat_tests)

-- a key that a move and a range share, if each begins before the other ends
record Shared (m : Move) (r : PlanRange) : Type 0 where
  key : ℕ
  moved : move_has key m ≡ true
  ranged : span_has r.span key ≡ true

shared : (m : Move) (r : PlanRange) → m.span.lo < m.span.hi → r.span.lo < r.span.hi → m.span.lo < r.span.hi → r.span.lo < m.span.hi → Shared m r
shared m r some full before after = elim (cases_lt m.span.lo r.span.lo) [
  | inl less ↦ record { key = r.span.lo; moved = inside m.span r.span.lo (omega (arith, less)) after; ranged = inside r.span r.span.lo (omega arith) full }
  | inr le ↦ record { key = m.span.lo; moved = inside m.span m.span.lo (omega arith) some; ranged = inside r.span m.span.lo le before }
]

pub loses_is : (c : Change) (r : PlanRange) (ms : List Move) → AreMoves c.old c.new ms → r.span.lo < r.span.hi → IsTrue (list_any (λ m. takes m r) ms) ↔ Loses c r
loses_is c r ms are full = (to, from)
  where
    to : list_any (λ m. takes m r) ms ≡ true → Loses c r
    to e =
        let p = passing c.old c.new (λ m. takes m r) ms are.each e in
        let a = and_parts (p.move.source == r.part) (nat_lt p.move.span.lo r.span.hi && nat_lt r.span.lo p.move.span.hi) p.passes in
        let b = and_parts (nat_lt p.move.span.lo r.span.hi) (nat_lt r.span.lo p.move.span.hi) a.1 in
        let s = shared p.move r p.is.full full (below p.move.span.lo r.span.hi b.0) (below r.span.lo p.move.span.hi b.1) in
        (s.key, s.ranged, sym (are.all s.key) ∙ p.keys s.key s.moved, p.is.source s.key s.moved ∙ eq_same p.move.source r.part a.0)

    from : Loses c r → list_any (λ m. takes m r) ms ≡ true
    from (k, keys, moving, owner) = some_passes c.old c.new (λ m. takes m r) k ms are.each (λ m is has.
        let w = within_span m.span k has in
        let v = within_span r.span k keys in
        and_from (m.source == r.part) (nat_lt m.span.lo r.span.hi && nat_lt r.span.lo m.span.hi)
        (ap (λ q. q == r.part) (sym (is.source k has) ∙ owner) ∙ eq_refl r.part)
        (and_from (nat_lt m.span.lo r.span.hi) (nat_lt r.span.lo m.span.hi) (test_below m.span.lo r.span.hi (omega (arith, w, v))) (test_below r.span.lo m.span.hi (omega (arith, w, v))))) (are.all k ∙ moving)

-- ---- ranges of a partition

-- what a node says of the keys of a range, said of the world's partition
pub ranged : (n : NetValue) (r : PlanRange) (at : ℕ) (peer : PeerValue) (c : Change) (answer : Result Bool AllocError) → place_of n (Part r.part) ≡ Some at → peer ≡ get_or n.peers at peer → c ≡ newest_of n
    → IfOk answer (λ has. (a : PartValue) → peer.role ≡ PartRole a → IsTrue has ↔ HasKeys c a r) → IfOk answer (λ has. IsTrue has ↔ HasRange n r)
ranged n r at peer c (Err e) place read course h = tt
ranged n r at peer c (Ok b) place read course h = (to, from)
  where
    own : IsPartPeer peer
    own = part_peer n r.part at peer place read

    has : HasPart n r.part at peer own.part
    has = has_part n r.part at peer place read own.part own.role

    to : IsTrue b → HasRange n r
    to said = record { at = at; peer = peer; part = own.part; has = has; keys = subst (λ d. HasKeys d own.part r) course ((h own.part own.role).0 said) }

    from : HasRange n r → IsTrue b
    from x =
        let place_same : x.at ≡ at = same_Some x.at at (sym x.has.place ∙ place) in
        let peer_same : x.peer ≡ peer = same_Some x.peer peer (sym x.has.there ∙ ap (slice_get n.peers) place_same ∙ has.there) in
        let same : x.part ≡ own.part = part_same x.part own.part (sym x.has.role ∙ ap (λ (p : PeerValue). p.role) peer_same ∙ own.role) in
        (h own.part own.role).1 (subst (λ d. HasKeys d own.part r) (sym course) (subst (λ a. HasKeys (newest_of n) a r) same x.keys))

-- ---- each of a list

pub all_take : {A : Type 0} (P : A → Type 0) (xs : List A) (i : ℕ) (x d : A) → i < length xs → x ≡ get_or xs i d → AllByRecursion P (take i xs) → P x → AllByRecursion P (take (suc i) xs)
all_take P [] i x d lt e all is = absurd (omega (arith, lt))
all_take P (y ∷ ys) zero x d lt e all is = (subst P e is, tt)
all_take P (y ∷ ys) (suc i) x d lt e all is = (all.0, all_take P ys i x d (omega (arith, lt)) e all.1 is)

pub all_get : {A : Type 0} (P : A → Type 0) (xs : List A) (i : ℕ) (x d : A) → i < length xs → x ≡ get_or xs i d → AllByRecursion P xs → P x
all_get P [] i x d lt e all = absurd (omega (arith, lt))
all_get P (y ∷ ys) zero x d lt e all = subst P (sym e) all.0
all_get P (y ∷ ys) (suc i) x d lt e all = all_get P ys i x d (omega (arith, lt)) e all.1
