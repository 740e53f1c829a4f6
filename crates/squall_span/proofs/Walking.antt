-- The steps of a walk along two sets.
use Rattle.std.proofs.Common.{◌≡◌, ℕ, ◌+◌, ◌-◌, ◌<◌, ◌≤◌, Bool, true, false, List, [], ◌∷◌, ◌++◌, Option, None, Some, option_to_list, refl, sym, ap, ◌∙◌, arith, inl, inr, ◌||◌}
use Rattle.std.proofs.Common.{subst}
use Rattle.std.specs.Iterator.{YieldsFirst}
use Rattle.std.proofs.lemmas.Bool.{cases_lt, false≢true}
use Rattle.squall_span.specs.Spans.{Interval, span_has, has, Beyond, IsCanonical}
use Rattle.squall_span.specs.SpanLaws.{has_after, has_in, outside_below}
use Rattle.squall_span.proofs.Sweeping.{has_early}

-- the first of the spans starts at most one key after k
abbrev pub StartsNear : ℕ → List Interval → Type 0
StartsNear k [] = ⊥
StartsNear k (s ∷ ss) = s.lo ≤ k + 1

-- the first of the spans ends at most one key after k
abbrev pub EndsNear : ℕ → List Interval → Type 0
EndsNear k [] = ⊥
EndsNear k (s ∷ ss) = s.hi ≤ k + 1

-- a span that was taken off a list, and the others; none was taken only off an empty list
abbrev pub IsHead : Option Interval → List Interval → Type 0
IsHead None rest = rest ≡ []
IsHead (Some s) rest = Unit {0}

-- what is known when own is left of a and rest is left of b
pub record Walking (a b own rest : List Interval) : Type 0 where
  pub canonical_own : IsCanonical own
  pub canonical_rest : IsCanonical rest
  pub asked : (k : ℕ) → has rest k ≡ true → has b k ≡ true
  pub owned : (k : ℕ) → has own k ≡ true → has a k ≡ true
  pub answered : (k : ℕ) → has b k ≡ true → has rest k ≡ false → has a k ≡ true
  pub passed : (k : ℕ) → EndsNear k rest → has a k ≡ true → has own k ≡ true
  pub near : (k : ℕ) → StartsNear k own → has a k ≡ true → has own k ≡ true

none_before : (a : List Interval) (k : ℕ) → IsCanonical a → StartsNear k a → has a k ≡ true → has a k ≡ true
none_before a k c n h = h

pub walking_none : (a b : List Interval) → IsCanonical a → IsCanonical b → Walking a b a b
walking_none a b c d = record {
  canonical_own = c;
  canonical_rest = d;
  asked = λ k h. h;
  owned = λ k h. h;
  answered = λ k h no. absurd (false≢true (sym no ∙ h));
  passed = λ k n h. h;
  near = λ k n h. h;
}

either : (x y : Bool) → y ≡ true → (x || y) ≡ true
either true y e = refl
either false y e = e

-- a span that ends before the next wanted one is passed
pub walking_past : (a b : List Interval) (s : Interval) (ss : List Interval) (t : Interval) (ts : List Interval) → s.hi < t.hi → Walking a b (s ∷ ss) (t ∷ ts) → Walking a b ss (t ∷ ts)
walking_past a b s ss t ts lt w = record {
  canonical_own = w.canonical_own.2;
  canonical_rest = w.canonical_rest;
  asked = w.asked;
  owned = λ k h. w.owned k (either (span_has s k) (has ss k) h);
  answered = w.answered;
  passed = λ k n h. sym (has_after s ss k (omega arith)) ∙ w.passed k n h;
  near = λ k n h. let after : s.hi ≤ k = past k ss n w.canonical_own.1 in let some = w.canonical_own.0 in sym (has_after s ss k after) ∙ w.near k (omega arith) h;
}
  where
    past : (k : ℕ) (us : List Interval) → StartsNear k us → Beyond s.hi us → s.hi ≤ k
    past k [] n beyond = absurd n
    past k (u ∷ us) n beyond = omega arith

-- a wanted span that lies within one is answered
pub walking_found : (a b : List Interval) (s : Interval) (ss : List Interval) (t : Interval) (ts : List Interval) → t.hi ≤ s.hi → s.lo ≤ t.lo → Walking a b (s ∷ ss) (t ∷ ts) → Walking a b (s ∷ ss) ts
walking_found a b s ss t ts le low w = record {
  canonical_own = w.canonical_own;
  canonical_rest = w.canonical_rest.2;
  asked = λ k h. w.asked k (either (span_has t k) (has ts k) h);
  owned = w.owned;
  answered = λ k h no. elim (cases_lt k t.lo) [
    | inl below ↦ w.answered k h (ap (λ x. x || has ts k) (outside_below t k below) ∙ no)
    | inr from ↦ elim (cases_lt k t.hi) [
      | inl upto ↦ w.owned k (has_in s ss k (omega arith) (omega arith))
      | inr above ↦ w.answered k h (has_after t ts k above ∙ no)
    ]
  ];
  passed = λ k n h. w.passed k (further k ts n w.canonical_rest.1 w.canonical_rest.2) h;
  near = w.near;
}
  where
    further : (k : ℕ) (us : List Interval) → EndsNear k us → Beyond t.hi us → IsCanonical us → t.hi ≤ k + 1
    further k [] n beyond c = absurd n
    further k (u ∷ us) n beyond c = omega (arith, c.0)

-- a wanted span that starts before the first of those left has a key that is nowhere
pub walking_missed : (a b : List Interval) (s : Interval) (ss : List Interval) (t : Interval) (ts : List Interval) → t.hi ≤ s.hi → t.lo < s.lo → Walking a b (s ∷ ss) (t ∷ ts) → ((k : ℕ) → has b k ≡ true → has a k ≡ true) → ⊥
walking_missed a b s ss t ts le low w all =
    let some = w.canonical_rest.0 in
    elim (cases_lt s.lo t.hi) [
      | inl within ↦
          let here = all (s.lo - 1) (w.asked (s.lo - 1) (has_in t ts (s.lo - 1) (omega arith) (omega arith))) in
          false≢true (sym (has_early (s.lo - 1) s ss w.canonical_own (omega arith)) ∙ w.near (s.lo - 1) (omega arith) here)
      | inr above ↦
          let here = all (t.hi - 1) (w.asked (t.hi - 1) (has_in t ts (t.hi - 1) (omega arith) (omega arith))) in
          false≢true (sym (has_early (t.hi - 1) s ss w.canonical_own (omega arith)) ∙ w.passed (t.hi - 1) (omega arith) here)
    ]

-- a wanted span has a key that is nowhere, if none are left
pub walking_out : (a b : List Interval) (t : Interval) (ts : List Interval) → Walking a b [] (t ∷ ts) → ((k : ℕ) → has b k ≡ true → has a k ≡ true) → ⊥
walking_out a b t ts w all =
    let some = w.canonical_rest.0 in
    let here = all (t.hi - 1) (w.asked (t.hi - 1) (has_in t ts (t.hi - 1) (omega arith) (omega arith))) in
    false≢true (w.passed (t.hi - 1) (omega arith) here)

-- what one step of a walk takes off a list
pub after_step : (o : Option Interval) (old rest : List Interval) → YieldsFirst (λ s. s) old o rest → (old ≡ option_to_list o ++ rest) × IsHead o rest
after_step None old rest y = (y.0 ∙ sym y.1, y.1)
after_step (Some s) old rest y = (y, tt)

pub is_none : (o : Option Interval) (rest : List Interval) → o ≡ None → IsHead o rest → option_to_list o ++ rest ≡ []
is_none o rest e h = (λ i. option_to_list (e i) ++ rest) ∙ subst (λ x. IsHead x rest) e h
