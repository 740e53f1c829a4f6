-- Spans read one after the other are a set in that order.
use Rattle.std.proofs.Common.{◌≡◌, ℕ, suc, ◌+◌, ◌-◌, ◌<◌, ◌≤◌, Bool, true, false, cond, ltb, List, [], ◌∷◌, ◌++◌, length, take, drop, Ok, Err, refl, sym, ap, subst, ◌∙◌, arith}
use Rattle.std.specs.Prelude.{nat_lt}
use Rattle.std.specs.List.{AllByRecursion}
use Rattle.std.specs.Int.{w64, from_be_bytes}
use Rattle.std.proofs.lemmas.Bool.{ltb-false}
use Rattle.std.proofs.lemmas.List.{length-drop}
use Rattle.std.proofs.lemmas.Bool.Decides.{nat_tests}
use Rattle.squall_span.specs.Spans.{Interval, interval, insert_span, hull}
use Rattle.squall_span.specs.Ready.{ReadyValue}
use Rattle.squall_wire.specs.declared.fault.WireFault.TheVariants.{Count}
use Rattle.squall_wire.specs.Limits.{span_in_range, span_in_order, after_span}
use Rattle.squall_wire.specs.Reading.{◌>>=◌, Read, number_at, checked, many_at, span_at}
use Rattle.squall_wire.specs.FieldLaws.{bind_ok, guard_ok, checked_ok}
use Rattle.squall_wire.specs.Views.{HasAdded, HasRoom}
use Rattle.squall_wire.proofs.Loop.{with_front, goes_on}

-- the span has a key and ends below the floor of the next
abbrev pub IsBelow : ℕ → Interval → Type 0
IsBelow floor s = (s.lo < s.hi) × (s.hi < floor)

abbrev pub AreBelow : ℕ → List Interval → Type 0
AreBelow floor xs = AllByRecursion (IsBelow floor) xs

-- what is read as a span begins at the floor or above, and has a key
pub span_read : (floor : ℕ) (bytes : List ℕ) (s : Interval) (rest : List ℕ) → span_at floor bytes ≡ Ok (s, rest) → (floor ≤ s.lo) × (s.lo < s.hi)
unfolding span_at
span_read floor bytes s rest e =
    let a = bind_ok (number_at w64 bytes) (λ lo. number_at w64 lo.1 >>= λ hi. checked (span_in_range (interval lo.0 hi.0)) (span_in_order floor (interval lo.0 hi.0)) (interval lo.0 hi.0, hi.1)) (s, rest) e in
    let b = bind_ok (number_at w64 a.0.1) (λ hi. checked (span_in_range (interval a.0.0 hi.0)) (span_in_order floor (interval a.0.0 hi.0)) (interval a.0.0 hi.0, hi.1)) (s, rest) a.2 in
    let made : Interval × List ℕ = (interval a.0.0 b.0.0, b.0.1) in
    let c = checked_ok (span_in_range (interval a.0.0 b.0.0)) (span_in_order floor (interval a.0.0 b.0.0)) made (s, rest) b.2 in
    subst (λ (x : Interval × List ℕ). (floor ≤ x.0.lo) × (x.0.lo < x.0.hi)) c.2 (ordered a.0.0 b.0.0 c.1)
  where
    ordered : (lo hi : ℕ) → span_in_order floor (interval lo hi) ≡ true → (floor ≤ lo) × (lo < hi)
    ordered lo hi h = (grind (arith, nat_tests), grind (arith, nat_tests))

-- a span beyond all others goes to the end
pub insert_last : (floor : ℕ) (s : Interval) (xs : List Interval) → floor ≤ s.lo → s.lo < s.hi → AreBelow floor xs → insert_span s xs ≡ xs ++ s ∷ []
insert_last floor s [] low some below = refl
insert_last floor s (t ∷ ts) low some below =
    let not_before : nat_lt s.hi t.lo ≡ false = later s.hi t.lo (omega (arith, below.0.0, below.0.1)) in
    let behind : nat_lt t.hi s.lo ≡ true = sooner t.hi s.lo (omega (arith, below.0.1)) in
    ap (λ (b : Bool). cond b (s ∷ t ∷ ts) (cond (nat_lt t.hi s.lo) (t ∷ insert_span s ts) (insert_span (hull s t) ts))) not_before
    ∙ ap (λ (b : Bool). cond b (t ∷ insert_span s ts) (insert_span (hull s t) ts)) behind
    ∙ ap (λ (us : List Interval). t ∷ us) (insert_last floor s ts low some below.1)
  where
    later : (x y : ℕ) → y ≤ x → nat_lt x y ≡ false
    later x y le = grind (arith, nat_tests)

    sooner : (x y : ℕ) → x < y → nat_lt x y ≡ true
    sooner x y lt = grind (arith, nat_tests)

pub below_more : (floor : ℕ) (s : Interval) (xs : List Interval) → floor ≤ s.lo → s.lo < s.hi → AreBelow floor xs → AreBelow (after_span floor s) (xs ++ s ∷ [])
below_more floor s [] low some below = ((some, omega arith), tt)
below_more floor s (t ∷ ts) low some below = ((below.0.0, omega (arith, below.0.1)), below_more floor s ts low some below.1)

-- the room that is left after one span
room_left : (left : ℕ) (bytes rest : List ℕ) (room new : ℕ) → 1 ≤ left → length bytes ≡ 16 + length rest → room ≤ new + 1 → HasRoom left bytes room → HasRoom (left - 1) rest new
room_left left bytes rest room new some long le has = record { enough = λ n few fits. less n (has.enough (suc n) (omega (arith, some, few)) (omega (arith, long, fits))) }
  where
    less : (n : ℕ) → suc n ≤ room → n ≤ new
    less n h = omega (arith, h, le)

-- there is room for the next span
pub room_next : (left : ℕ) (bytes : List ℕ) (room : ℕ) → 1 ≤ left → HasRoom left bytes room → HasRoom 1 bytes room
room_next left bytes room some has = record { enough = λ n few fits. has.enough n (omega (arith, some, few)) fits }

-- before the first span nothing is read
front_none : (r : Read (List Interval)) → with_front [] r ≡ r
front_none (Ok x) = refl
front_none (Err e) = refl

pub spans_start : (xs : List Interval) (count : ℕ) (bytes : List ℕ) → xs ≡ [] → with_front xs (many_at span_at after_span (count - 0) 0 bytes) ≡ many_at span_at after_span count 0 bytes
spans_start xs count bytes none =
    ap (λ (l : List Interval). with_front l (many_at span_at after_span (count - 0) 0 bytes)) none
    ∙ front_none (many_at span_at after_span (count - 0) 0 bytes)
    ∙ ap (λ (n : ℕ). many_at span_at after_span n 0 bytes) (all_left count)
  where
    all_left : (n : ℕ) → n - 0 ≡ n
    all_left n = omega arith

pub room_start : (count : ℕ) (bytes : List ℕ) (room : ℕ) → HasRoom count bytes room → HasRoom (count - 0) bytes room
room_start count bytes room has = record { enough = λ n few fits. has.enough n (omega (arith, few)) fits }

-- a span takes 16 bytes
number_left : (bytes : List ℕ) (x : ℕ × List ℕ) → number_at w64 bytes ≡ Ok x → length bytes ≡ 8 + length x.1
number_left bytes x e =
    let g = guard_ok (ltb (length bytes) 8) Count (from_be_bytes w64 (take 8 bytes), drop 8 bytes) x e in
    let long : 8 ≤ length bytes = ltb-false _ _ g.0 in
    subst (λ (y : ℕ × List ℕ). length bytes ≡ 8 + length y.1) g.1 (omega (arith, long, length-drop 8 bytes))

pub span_left : (floor : ℕ) (bytes : List ℕ) (s : Interval) (rest : List ℕ) → span_at floor bytes ≡ Ok (s, rest) → length bytes ≡ 16 + length rest
unfolding span_at
span_left floor bytes s rest e =
    let a = bind_ok (number_at w64 bytes) (λ lo. number_at w64 lo.1 >>= λ hi. checked (span_in_range (interval lo.0 hi.0)) (span_in_order floor (interval lo.0 hi.0)) (interval lo.0 hi.0, hi.1)) (s, rest) e in
    let b = bind_ok (number_at w64 a.0.1) (λ hi. checked (span_in_range (interval a.0.0 hi.0)) (span_in_order floor (interval a.0.0 hi.0)) (interval a.0.0 hi.0, hi.1)) (s, rest) a.2 in
    let made : Interval × List ℕ = (interval a.0.0 b.0.0, b.0.1) in
    let c = checked_ok (span_in_range (interval a.0.0 b.0.0)) (span_in_order floor (interval a.0.0 b.0.0)) made (s, rest) b.2 in
    subst (λ (x : Interval × List ℕ). length bytes ≡ 16 + length x.1) c.2 (both (length bytes) (length a.0.1) (length b.0.1) (number_left bytes a.0 a.1) (number_left a.0.1 b.0 b.1))
  where
    both : (x y z : ℕ) → x ≡ 8 + y → y ≡ 8 + z → x ≡ 16 + z
    both x y z e f = omega (arith, e, f)

-- two numbers of eight bytes were read, so that there is room for their span
pub room_read : (bytes : List ℕ) (x y : ℕ × List ℕ) (room : ℕ) → number_at w64 bytes ≡ Ok x → number_at w64 x.1 ≡ Ok y → HasRoom 1 bytes room → 0 < room
room_read bytes x y room e f has =
    let a = number_left bytes x e in
    let b = number_left x.1 y f in
    has.enough 1 (omega arith) (omega (arith, a, b))

-- one span more
pub one_more : (old new : ReadyValue) (count i floor : ℕ) (bytes : List ℕ) (next : ℕ) (rest : List ℕ) (total : Read (List Interval)) → i < count → HasAdded floor bytes old new next rest
    → with_front old.set (many_at span_at after_span (count - i) floor bytes) ≡ total → AreBelow floor old.set → HasRoom (count - i) bytes old.room
    → (with_front new.set (many_at span_at after_span (count - (i + 1)) next rest) ≡ total) × AreBelow next new.set × HasRoom (count - (i + 1)) rest new.room
one_more old new count i floor bytes next rest total lt h so_far below has =
    let within = span_read floor bytes h.span rest h.read in
    let last : new.set ≡ old.set ++ h.span ∷ [] = h.added ∙ insert_last floor h.span old.set within.0 within.1 below in
    let front = goes_on span_at after_span old.set count i floor bytes h.span rest total lt h.read so_far in
    let more = below_more floor h.span old.set within.0 within.1 below in
    let fewer : (count - i) - 1 ≡ count - (i + 1) = omega arith in
    let room = room_left (count - i) bytes rest old.room new.room (omega (arith, lt)) (span_left floor bytes h.span rest h.read) h.room has in (
      subst (λ (l : List Interval). with_front l (many_at span_at after_span (count - (i + 1)) next rest) ≡ total) (sym last) (subst (λ (k : ℕ). with_front (old.set ++ h.span ∷ []) (many_at span_at after_span (count - (i + 1)) k rest) ≡ total) (sym h.goes_on) front),
      subst (λ (l : List Interval). AreBelow next l) (sym last) (subst (λ (k : ℕ). AreBelow k (old.set ++ h.span ∷ [])) (sym h.goes_on) more),
      subst (λ (k : ℕ). HasRoom k rest new.room) fewer room,
    )
