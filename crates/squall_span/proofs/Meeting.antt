-- The steps of a walk along two sets for the keys that they have in common.
use Rattle.std.proofs.Common.{◌≡◌, ℕ, ◌≤◌, max, min, Bool, true, false, List, [], ◌∷◌, Some, drop, refl, sym, ap, subst, ◌∙◌, arith, inl, inr, ◌||◌}
use Rattle.std.specs.Prelude.{◌⊎◌, ◌&&◌, Result, Ok, Err, IfOk}
use Rattle.std.proofs.Math.Bool.{and_comm, and-false, or-false}
use Rattle.std.proofs.lemmas.Bool.{cases_lt, false≢true}
use Rattle.std.proofs.lemmas.Bool.Decides.{nat_tests}
use Rattle.squall_span.specs.Spans.{Interval, interval, span_has, has, Beyond, IsCanonical, first_span, spans_beyond}
use Rattle.squall_span.specs.SpanLaws.{has_below, outside_above}
use Rattle.squall_span.specs.Places.{Ended}
use Rattle.squall_span.proofs.Adding.{EndsBefore, before_weaker, Added, AddedBy, added}
use Rattle.squall_span.proofs.Places.{ended_same}
use Rattle.squall_span.specs.BeyondLaws.{has_beyond, canonical_beyond, first_cons}
use Rattle.squall_span.proofs.Sweeping.{has_early, first_least}

-- no span touches the keys that the two first spans share
abbrev pub ClearOf : List Interval → List Interval → List Interval → Type 0
ClearOf [] b out = Unit {0}
ClearOf (s ∷ ss) [] out = Unit {0}
ClearOf (s ∷ ss) (t ∷ ts) out = EndsBefore (max s.lo t.lo) out

-- what is done of a walk along x and y, with a and b still to come
pub record Meeting (x y out a b : List Interval) : Type 0 where
  pub canonical : IsCanonical out
  pub canonical_a : IsCanonical a
  pub canonical_b : IsCanonical b
  pub clear : ClearOf a b out
  pub keys : (k : ℕ) → (has out k || (has a k && has b k)) ≡ (has x k && has y k)

clear_none : (a b : List Interval) → ClearOf a b []
clear_none [] b = tt
clear_none (s ∷ ss) [] = tt
clear_none (s ∷ ss) (t ∷ ts) = tt

pub meeting_none : (x y : List Interval) → IsCanonical x → IsCanonical y → Meeting x y [] x y
meeting_none x y c d = record {
  canonical = tt;
  canonical_a = c;
  canonical_b = d;
  clear = clear_none x y;
  keys = λ k. refl;
}

clear_swap : (a b out : List Interval) → ClearOf a b out → ClearOf b a out
clear_swap [] [] out c = tt
clear_swap [] (t ∷ ts) out c = tt
clear_swap (s ∷ ss) [] out c = tt
clear_swap (s ∷ ss) (t ∷ ts) out c = before_weaker (max s.lo t.lo) (max t.lo s.lo) out (omega arith) c

meeting_swap : (x y out a b : List Interval) → Meeting x y out a b → Meeting y x out b a
meeting_swap x y out a b m = record {
  canonical = m.canonical;
  canonical_a = m.canonical_b;
  canonical_b = m.canonical_a;
  clear = clear_swap a b out m.clear;
  keys = λ k. ap (λ t. has out k || t) (and_comm (has b k) (has a k)) ∙ m.keys k ∙ and_comm (has x k) (has y k);
}

-- a key of a span is in none that starts beyond its end
apart : (s t : Interval) (ts : List Interval) (k : ℕ) → s.hi ≤ t.hi → IsCanonical (t ∷ ts) → (span_has s k && has ts k) ≡ false
apart s t ts k le c = elim (cases_lt k s.hi) [
  | inl lt ↦ ap (λ u. span_has s k && u) (has_below t.hi k ts c.1 c.2 (omega arith)) ∙ and-false (span_has s k)
  | inr ge ↦ ap (λ u. u && has ts k) (outside_above s k ge)
]

regroup : (o p q r u : Bool) → (p && u) ≡ false → ((o || (p && q)) || (r && (q || u))) ≡ (o || ((p || r) && (q || u)))
regroup true p q r u e = refl
regroup false false q r u e = refl
regroup false true q r true e = absurd (false≢true (sym e))
regroup false true true r false e = refl
regroup false true false true false e = refl
regroup false true false false false e = refl

both : (s t : Interval) (k : ℕ) → span_has (interval (max s.lo t.lo) (min s.hi t.hi)) k ≡ (span_has s k && span_has t k)
both s t k = grind (arith, nat_tests)

-- the keys that two spans share were added
abbrev pub AddedBoth : Interval → Interval → List Interval → List Interval → Type 0
AddedBoth s t out new = Added (max s.lo t.lo) (min s.hi t.hi) out new

pass : (x y out new : List Interval) (s : Interval) (ss : List Interval) (t : Interval) (ts : List Interval) → s.hi ≤ t.hi → AddedBoth s t out new → Meeting x y out (s ∷ ss) (t ∷ ts) → Meeting x y new ss (t ∷ ts)
pass x y out new s ss t ts le d m = record {
  canonical = d.canonical;
  canonical_a = m.canonical_a.2;
  canonical_b = m.canonical_b;
  clear = clear ss m.canonical_a.1;
  keys = λ k. ap (λ u. u || (has ss k && (span_has t k || has ts k))) (d.keys k ∙ ap (λ u. has out k || u) (both s t k))
      ∙ regroup (has out k) (span_has s k) (span_has t k) (has ss k) (has ts k) (apart s t ts k le m.canonical_b)
      ∙ m.keys k;
}
  where
    clear : (us : List Interval) → Beyond s.hi us → ClearOf us (t ∷ ts) new
    clear [] b = tt
    clear (u ∷ us) b = let some = m.canonical_a.0 in d.clear (max u.lo t.lo) (omega arith) (omega arith)

-- the first span of a is passed
pub meeting_first : (x y out new : List Interval) (s : Interval) (ss : List Interval) (t : Interval) (ts : List Interval) → s.hi ≤ t.hi → AddedBy (max s.lo t.lo) (min s.hi t.hi) out new → Meeting x y out (s ∷ ss) (t ∷ ts) → Meeting x y new ss (t ∷ ts)
meeting_first x y out new s ss t ts le how m = pass x y out new s ss t ts le (added (max s.lo t.lo) (min s.hi t.hi) out new m.canonical m.clear how) m

-- the first span of b is passed
pub meeting_second : (x y out new : List Interval) (s : Interval) (ss : List Interval) (t : Interval) (ts : List Interval) → t.hi ≤ s.hi → AddedBy (max s.lo t.lo) (min s.hi t.hi) out new → Meeting x y out (s ∷ ss) (t ∷ ts) → Meeting x y new (s ∷ ss) ts
meeting_second x y out new s ss t ts le how m =
    meeting_swap y x new ts (s ∷ ss) (pass y x out new t ts s ss le (swapped (added (max s.lo t.lo) (min s.hi t.hi) out new m.canonical m.clear how)) (meeting_swap x y out (s ∷ ss) (t ∷ ts) m))
  where
    swapped : AddedBoth s t out new → AddedBoth t s out new
    swapped d = record {
      canonical = d.canonical;
      clear = λ h lt le. d.clear h (omega arith) (omega arith);
      keys = λ k. d.keys k ∙ ap (λ u. has out k || u) (both s t k ∙ and_comm (span_has s k) (span_has t k) ∙ sym (both t s k));
    }

-- none is left of one list
pub meeting_done : (x y out a b : List Interval) → (a ≡ []) ⊎ (b ≡ []) → Meeting x y out a b → (k : ℕ) → has out k ≡ (has x k && has y k)
meeting_done x y out a b (inl e) m k = sym (ap (λ l. has out k || (has l k && has b k)) e ∙ or-false (has out k)) ∙ m.keys k
meeting_done x y out a b (inr e) m k = sym (ap (λ l. has out k || (has a k && has l k)) e ∙ ap (λ u. has out k || u) (and-false (has a k)) ∙ or-false (has out k)) ∙ m.keys k

-- what ends before the other list begins has no key of it
pub ahead_same : (xs : List Interval) (t : Interval) (ts : List Interval) (i k : ℕ) → IsCanonical (t ∷ ts) → Ended xs t.lo i → (has (drop i xs) k && has (t ∷ ts) k) ≡ (has xs k && has (t ∷ ts) k)
ahead_same xs t ts i k c e = elim (cases_lt k t.lo) [
  | inl early ↦ ap (λ u. has (drop i xs) k && u) (has_early k t ts c early) ∙ and-false (has (drop i xs) k) ∙ sym (ap (λ u. has xs k && u) (has_early k t ts c early) ∙ and-false (has xs k))
  | inr from ↦ ap (λ u. u && has (t ∷ ts) k) (sym (ended_same xs t.lo i k e from))
]

-- ---- a walk along what two sets have from where both have begun

-- a walk begins
pub meeting_start : (x y out : List Interval) → IsCanonical x → IsCanonical y → out ≡ [] → Meeting x y out x y
meeting_start x y out c d e = subst (λ (o : List Interval). Meeting x y o x y) (sym e) (meeting_none x y c d)

-- the first span of a is passed, and those behind it are left
pub meeting_next : (x y out new : List Interval) (s : Interval) (ss left : List Interval) (t : Interval) (ts : List Interval) → s.hi ≤ t.hi → AddedBy (max s.lo t.lo) (min s.hi t.hi) out new → ss ≡ left → Meeting x y out (s ∷ ss) (t ∷ ts) → Meeting x y new left (t ∷ ts)
meeting_next x y out new s ss left t ts le how is m = subst (λ (l : List Interval). Meeting x y new l (t ∷ ts)) is (meeting_first x y out new s ss t ts le how m)

-- the first span of b is passed
pub meeting_other : (x y out new : List Interval) (s : Interval) (ss : List Interval) (t : Interval) (ts left : List Interval) → t.hi ≤ s.hi → AddedBy (max s.lo t.lo) (min s.hi t.hi) out new → ts ≡ left → Meeting x y out (s ∷ ss) (t ∷ ts) → Meeting x y new (s ∷ ss) left
meeting_other x y out new s ss t ts left le how is m = subst (λ (l : List Interval). Meeting x y new (s ∷ ss) l) is (meeting_second x y out new s ss t ts le how m)

and_where : (x y z : Bool) → (x ≡ true → y ≡ z) → (x && y) ≡ (x && z)
and_where true y z f = f refl
and_where false y z f = refl

-- the keys from where the other set begins
pub from_start : (a b : List Interval) (t : Interval) (lo k : ℕ) → IsCanonical b → first_span b ≡ Some t → lo ≡ t.lo → (has (spans_beyond lo a) k && has b k) ≡ (has a k && has b k)
from_start a b t lo k c is at = elim (cases_lt k lo) [
  | inl early ↦
      let l = first_cons b t is in
      let none : has b k ≡ false = ap (λ u. has u k) l.1 ∙ has_early k t l.0 (subst IsCanonical l.1 c) (omega (arith, at, early)) in
      ap (λ u. has (spans_beyond lo a) k && u) none ∙ and-false (has (spans_beyond lo a) k) ∙ sym (ap (λ u. has a k && u) none ∙ and-false (has a k))
  | inr from ↦ ap (λ u. u && has b k) (has_beyond lo k a from)
]

-- what both have, of which each begins where the other has begun
pub from_both : (a b own others : List Interval) (t s : Interval) (ss : List Interval) (lo from k : ℕ) → IsCanonical a → IsCanonical b → first_span b ≡ Some t → lo ≡ t.lo → own ≡ spans_beyond lo a → own ≡ s ∷ ss → from ≡ s.lo → others ≡ spans_beyond from b → (has (s ∷ ss) k && has others k) ≡ (has a k && has b k)
from_both a b own others t s ss lo from k c d is at o split start e =
    let canonical : IsCanonical (s ∷ ss) = subst IsCanonical (sym o ∙ split) (canonical_beyond lo a c) in
    and_where (has (s ∷ ss) k) (has others k) (has b k) (λ h. ap (λ l. has l k) e ∙ has_beyond from k b (let le = first_least s ss k canonical h in omega (arith, start, le)))
    ∙ ap (λ l. has l k && has b k) (sym split ∙ o) ∙ from_start a b t lo k d is at

-- none of the first ends beyond where the other begins
pub none_own : (a b own out : List Interval) (t : Interval) (lo k : ℕ) → IsCanonical b → first_span b ≡ Some t → lo ≡ t.lo → own ≡ spans_beyond lo a → own ≡ [] → out ≡ [] → has out k ≡ (has a k && has b k)
none_own a b own out t lo k d is at o none e =
    ap (λ l. has l k) e ∙ sym (ap (λ l. has l k && has b k) (sym o ∙ none)) ∙ from_start a b t lo k d is at

-- none of the other ends beyond where the first begins
pub none_other : (a b own others out : List Interval) (t s : Interval) (ss : List Interval) (lo from k : ℕ) → IsCanonical a → IsCanonical b → first_span b ≡ Some t → lo ≡ t.lo → own ≡ spans_beyond lo a → own ≡ s ∷ ss → from ≡ s.lo → others ≡ spans_beyond from b → others ≡ [] → out ≡ [] → has out k ≡ (has a k && has b k)
none_other a b own others out t s ss lo from k c d is at o split start e none empty =
    ap (λ l. has l k) empty ∙ sym (ap (λ l. has (s ∷ ss) k && has l k) none ∙ and-false (has (s ∷ ss) k)) ∙ from_both a b own others t s ss lo from k c d is at o split start e

-- what a walk along both finds
pub found_both : {V E : Type 0} (items : V → List Interval) (r : Result V E) (a b own others : List Interval) (t s u : Interval) (ss us : List Interval) (lo from : ℕ) → IsCanonical a → IsCanonical b → first_span b ≡ Some t → lo ≡ t.lo → own ≡ spans_beyond lo a → own ≡ s ∷ ss → from ≡ s.lo → others ≡ spans_beyond from b → others ≡ u ∷ us
    → IfOk r (λ v. (k : ℕ) → has (items v) k ≡ (has (s ∷ ss) k && has (u ∷ us) k)) → IfOk r (λ v. (k : ℕ) → has (items v) k ≡ (has a k && has b k))
found_both items (Ok v) a b own others t s u ss us lo from c d is at o split start e rest keys =
    λ k. keys k ∙ ap (λ l. has (s ∷ ss) k && has l k) (sym rest) ∙ from_both a b own others t s ss lo from k c d is at o split start e
found_both items (Err x) a b own others t s u ss us lo from c d is at o split start e rest keys = tt
