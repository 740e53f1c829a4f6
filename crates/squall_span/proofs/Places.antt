-- What a binary search finds among the spans of a set.
use Rattle.std.proofs.Common.{◌≡◌, ℕ, zero, suc, ◌+◌, ◌-◌, ◌<◌, ◌≤◌, false, ◌||◌, List, [], ◌∷◌, length, get_or, take, drop, refl, sym, ap, subst, ◌∙◌, arith}
use Rattle.std.specs.List.Sorted.{IsNonDecreasingBy}
use Rattle.std.proofs.Math.Bool.{or-false}
use Rattle.std.proofs.lemmas.List.{drop_more, drop_all, get_or_default}
use Rattle.squall_span.specs.Spans.{Interval, span_has, has, Beyond, IsCanonical, EndsBy, EndsBeyond}
use Rattle.squall_span.specs.SpanLaws.{outside_above, has_below}
use Rattle.squall_span.specs.Places.{Ended, Apart, Started}

pub starts_above : (h : ℕ) (xs : List Interval) (j : ℕ) (d : Interval) → Beyond h xs → IsCanonical xs → j < length xs → h < (get_or xs j d).lo
starts_above h [] j d b c lt = absurd (omega arith)
starts_above h (x ∷ xs) zero d b c lt = b
starts_above h (x ∷ xs) (suc j) d b c lt = let above = starts_above x.hi xs j d c.1 c.2 (omega arith) in omega (arith, b, c.0)

pub canonical_at : (xs : List Interval) (i : ℕ) (d : Interval) → IsCanonical xs → i < length xs → (get_or xs i d).lo < (get_or xs i d).hi
canonical_at [] i d c lt = absurd (omega arith)
canonical_at (x ∷ xs) zero d c lt = c.0
canonical_at (x ∷ xs) (suc i) d c lt = canonical_at xs i d c.2 (omega arith)

pub ends_rise : (xs : List Interval) → IsCanonical xs → IsNonDecreasingBy (λ s. s.hi) xs
ends_rise [] c i j d le lt = absurd (omega arith)
ends_rise (x ∷ xs) c zero zero d le lt = omega arith
ends_rise (x ∷ xs) c zero (suc j) d le lt =
    let above = starts_above x.hi xs j d c.1 c.2 (omega arith) in
    let some = canonical_at xs j d c.2 (omega arith) in
    omega arith
ends_rise (x ∷ xs) c (suc i) zero d le lt = absurd (omega arith)
ends_rise (x ∷ xs) c (suc i) (suc j) d le lt = ends_rise xs c.2 i j d (omega arith) (omega arith)

pub starts_rise : (xs : List Interval) → IsCanonical xs → IsNonDecreasingBy (λ s. s.lo) xs
starts_rise [] c i j d le lt = absurd (omega arith)
starts_rise (x ∷ xs) c zero zero d le lt = omega arith
starts_rise (x ∷ xs) c zero (suc j) d le lt = let above = starts_above x.hi xs j d c.1 c.2 (omega arith) in omega (arith, c.0)
starts_rise (x ∷ xs) c (suc i) zero d le lt = absurd (omega arith)
starts_rise (x ∷ xs) c (suc i) (suc j) d le lt = starts_rise xs c.2 i j d (omega arith) (omega arith)

pub canonical_drop : (xs : List Interval) (i : ℕ) → IsCanonical xs → IsCanonical (drop i xs)
canonical_drop xs zero c = c
canonical_drop [] (suc i) c = tt
canonical_drop (x ∷ xs) (suc i) c = canonical_drop xs i c.2

ended_tail : (x : Interval) (xs : List Interval) (bound i : ℕ) → Ended (x ∷ xs) bound (suc i) → Ended xs bound i
ended_tail x xs bound i e = record {
  within = omega (arith, e.within);
  before = λ j d lt. e.before (suc j) d (omega arith);
  from = λ j d le lt. e.from (suc j) d (omega arith) (omega arith);
}

-- the spans that ended have no key from the bound on
pub ended_same : (xs : List Interval) (bound i k : ℕ) → Ended xs bound i → bound ≤ k → has xs k ≡ has (drop i xs) k
ended_same [] bound zero k e le = refl
ended_same [] bound (suc i) k e le = refl
ended_same (x ∷ xs) bound zero k e le = refl
ended_same (x ∷ xs) bound (suc i) k e le =
    let past = e.before 0 x (omega arith) in
    ap (λ b. b || has xs k) (outside_above x k (omega arith)) ∙ ended_same xs bound i k (ended_tail x xs bound i e) le

pub ended_ends : (xs : List Interval) (bound i : ℕ) → Ended xs bound i → EndsBeyond bound (drop i xs)
ended_ends [] bound zero e = tt
ended_ends [] bound (suc i) e = tt
ended_ends (x ∷ xs) bound zero e = e.from 0 x (omega arith) (omega arith)
ended_ends (x ∷ xs) bound (suc i) e = ended_ends xs bound i (ended_tail x xs bound i e)

pub ended_front : (xs : List Interval) (bound i : ℕ) → Ended xs bound i → EndsBy bound (take i xs)
ended_front [] bound zero e = tt
ended_front [] bound (suc i) e = tt
ended_front (x ∷ xs) bound zero e = tt
ended_front (x ∷ xs) bound (suc i) e = (e.before 0 x (omega arith), ended_front xs bound i (ended_tail x xs bound i e))

-- the list from a place on
pub from_place : (xs : List Interval) (i : ℕ) (x : Interval) → i < length xs → x ≡ get_or xs i x → drop i xs ≡ x ∷ drop (i + 1) xs
from_place xs i x lt is = drop_more xs i x lt ∙ ap (λ y. y ∷ drop (i + 1) xs) (sym is)

-- the one span that may have the key
pub has_found : (xs : List Interval) (k i : ℕ) (x : Interval) → IsCanonical xs → Ended xs k i → i < length xs → x ≡ get_or xs i x → has xs k ≡ span_has x k
has_found xs k i x c e lt is =
    let rest = from_place xs i x lt is in
    let one : IsCanonical (x ∷ drop (i + 1) xs) = subst IsCanonical rest (canonical_drop xs i c) in
    let ends : k < x.hi = subst (EndsBeyond k) rest (ended_ends xs k i e) in
    ended_same xs k i k e (omega arith) ∙ ap (λ l. has l k) rest ∙ ap (λ b. span_has x k || b) (has_below x.hi k (drop (i + 1) xs) one.1 one.2 (omega arith)) ∙ or-false (span_has x k)

pub has_none : (xs : List Interval) (k i : ℕ) → Ended xs k i → length xs ≤ i → has xs k ≡ false
has_none xs k i e le = ended_same xs k i k e (omega arith) ∙ ap (λ l. has l k) (drop_all i xs le)

-- all end before the bound if the last one does
pub last_apart : (xs : List Interval) (bound : ℕ) (x : Interval) → IsCanonical xs → 0 < length xs → x ≡ get_or xs (length xs - 1) x → x.hi < bound → Apart xs bound (length xs)
last_apart xs bound x c some is lt = record {
  within = omega arith;
  before = λ j d below.
      let rise = ends_rise xs c j (length xs - 1) d (omega arith) (omega arith) in
      let same : x.hi ≡ (get_or xs (length xs - 1) d).hi = ap (λ (t : Interval). t.hi) (is ∙ get_or_default xs (length xs - 1) x d (omega arith)) in
      omega (arith, rise, same);
  from = λ j d le below. absurd (omega arith);
}

-- a span ends before the next one starts
pub ends_before : (xs : List Interval) (i j : ℕ) (d : Interval) → IsCanonical xs → i < j → j < length xs → (get_or xs i d).hi < (get_or xs j d).lo
ends_before [] i j d c lt fits = absurd (omega arith)
ends_before (x ∷ xs) zero zero d c lt fits = absurd (omega arith)
ends_before (x ∷ xs) zero (suc j) d c lt fits = starts_above x.hi xs j d c.1 c.2 (omega arith)
ends_before (x ∷ xs) (suc i) zero d c lt fits = absurd (omega arith)
ends_before (x ∷ xs) (suc i) (suc j) d c lt fits = ends_before xs i j d c.2 (omega arith) (omega arith)

-- the last of those that ended does so before the bound, if there is one
pub apart_past : (xs : List Interval) (bound i : ℕ) → IsCanonical xs → Ended xs bound i → ((d : Interval) → 0 < i → (get_or xs (i - 1) d).hi < bound) → Apart xs bound i
apart_past xs bound i c e past = record {
  within = e.within;
  before = λ j d lt.
      let last = past d (omega arith) in
      let rise = ends_rise xs c j (i - 1) d (omega arith) (omega (arith, e.within)) in
      omega (arith, last, rise);
  from = λ j d le lt. let far = e.from j d le lt in omega (arith, far);
}

-- the last of those that ended does so at the bound
pub apart_at : (xs : List Interval) (bound i : ℕ) → IsCanonical xs → Ended xs bound i → 0 < i → ((d : Interval) → bound ≤ (get_or xs (i - 1) d).hi) → Apart xs bound (i - 1)
apart_at xs bound i c e some far = record {
  within = omega (arith, e.within);
  before = λ j d lt.
      let gap = ends_before xs j (i - 1) d c (omega arith) (omega (arith, e.within)) in
      let one = canonical_at xs (i - 1) d c (omega (arith, e.within)) in
      let last = e.before (i - 1) d (omega arith) in
      omega (arith, gap, one, last);
  from = λ j d le lt.
      let last = far d in
      let rise = ends_rise xs c (i - 1) j d le lt in
      omega (arith, last, rise);
}

-- the first that ends beyond the bound starts beyond it too, if there is one
pub started_past : (xs : List Interval) (bound i : ℕ) → IsCanonical xs → Ended xs bound i → ((d : Interval) → i < length xs → bound < (get_or xs i d).lo) → Started xs bound i
started_past xs bound i c e past = record {
  within = e.within;
  before = λ j d lt.
      let one = canonical_at xs j d c (omega (arith, e.within)) in
      let last = e.before j d lt in
      omega (arith, one, last);
  from = λ j d le lt.
      let first = past d (omega arith) in
      let rise = starts_rise xs c i j d le lt in
      omega (arith, first, rise);
}

-- the first that ends beyond the bound starts at it or before it
pub started_at : (xs : List Interval) (bound i : ℕ) → IsCanonical xs → Ended xs bound i → i < length xs → ((d : Interval) → (get_or xs i d).lo ≤ bound) → Started xs bound (i + 1)
started_at xs bound i c e fits near = record {
  within = omega arith;
  before = λ j d lt.
      let first = near d in
      let rise = starts_rise xs c j i d (omega arith) fits in
      omega (arith, first, rise);
  from = λ j d le lt.
      let far = e.from i d (omega arith) fits in
      let gap = ends_before xs i j d c (omega arith) lt in
      omega (arith, far, gap);
}
