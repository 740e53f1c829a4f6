-- Laws of the spans of a set from a bound on (this project).
use Rattle.std.proofs.Common.{◌≡◌, ℕ, ◌<◌, ◌≤◌, true, false, cond, nat_lt, List, [], ◌∷◌, None, Some, refl, sym, ap, subst, ◌∙◌, arith, inl, inr, ◌||◌}
use Rattle.std.proofs.Math.Bool.{or-false}
use Rattle.std.proofs.lemmas.Bool.{cases_lt}
use Rattle.std.proofs.lemmas.Bool.Decides.{nat_tests}
use Rattle.squall_span.specs.Spans.{Interval, span_has, has, IsCanonical, EndsBy, EndsBeyond, first_span, spans_beyond}
use Rattle.squall_span.specs.SpanLaws.{has_below, has_after}

pub beyond_first : (k : ℕ) (s : Interval) (ss : List Interval) → k < s.hi → spans_beyond k (s ∷ ss) ≡ s ∷ ss
beyond_first k s ss lt = let e : nat_lt k s.hi ≡ true = grind (arith, nat_tests) in ap (λ b. cond b (s ∷ ss) (spans_beyond k ss)) e

pub beyond_next : (k : ℕ) (s : Interval) (ss : List Interval) → s.hi ≤ k → spans_beyond k (s ∷ ss) ≡ spans_beyond k ss
beyond_next k s ss le = let e : nat_lt k s.hi ≡ false = grind (arith, nat_tests) in ap (λ b. cond b (s ∷ ss) (spans_beyond k ss)) e

pub canonical_beyond : (k : ℕ) (xs : List Interval) → IsCanonical xs → IsCanonical (spans_beyond k xs)
canonical_beyond k [] c = tt
canonical_beyond k (x ∷ xs) c = elim (nat_lt k x.hi) as (λ b. IsCanonical (cond b (x ∷ xs) (spans_beyond k xs))) [ true ↦ c | false ↦ canonical_beyond k xs c.2 ]

-- the spans from a bound on have the keys from there
pub has_beyond : (b k : ℕ) (xs : List Interval) → b ≤ k → has (spans_beyond b xs) k ≡ has xs k
has_beyond b k [] le = refl
has_beyond b k (x ∷ xs) le = elim (cases_lt b x.hi) [
  | inl lt ↦ ap (λ l. has l k) (beyond_first b x xs lt)
  | inr ge ↦ ap (λ l. has l k) (beyond_next b x xs ge) ∙ has_beyond b k xs le ∙ sym (has_after x xs k (omega arith))
]

pub has_none_beyond : (k : ℕ) (xs : List Interval) → first_span (spans_beyond k xs) ≡ None → has xs k ≡ false
has_none_beyond k xs none = sym (has_beyond k k xs (omega arith)) ∙ nothing (spans_beyond k xs) none
  where
    nothing : (l : List Interval) → first_span l ≡ None → has l k ≡ false
    nothing [] e = refl
    nothing (s ∷ ss) e = absurd cc

pub first_cons : (l : List Interval) (s : Interval) → first_span l ≡ Some s → (r : List Interval) × (l ≡ s ∷ r)
first_cons [] s e = absurd cc
first_cons (t ∷ ts) s e = let same : t ≡ s = cc in (ts, ap (λ x. x ∷ ts) same)

first_past : (k : ℕ) (xs : List Interval) (s : Interval) → first_span (spans_beyond k xs) ≡ Some s → k < s.hi
first_past k [] s e = absurd cc
first_past k (x ∷ xs) s e = elim (cases_lt k x.hi) [
  | inl lt ↦ (let same : x ≡ s = (let got : first_span (x ∷ xs) ≡ Some s = ap first_span (sym (beyond_first k x xs lt)) ∙ e in cc) in subst (λ (t : Interval). k < t.hi) same lt)
  | inr ge ↦ first_past k xs s (ap first_span (sym (beyond_next k x xs ge)) ∙ e)
]

pub has_first_beyond : (k : ℕ) (xs : List Interval) (s : Interval) → IsCanonical xs → first_span (spans_beyond k xs) ≡ Some s → has xs k ≡ span_has s k
has_first_beyond k xs s c e =
    let l = first_cons (spans_beyond k xs) s e in
    let d : IsCanonical (s ∷ l.0) = subst IsCanonical l.1 (canonical_beyond k xs c) in
    let far = first_past k xs s e in
    sym (has_beyond k k xs (omega arith)) ∙ ap (λ t. has t k) l.1
    ∙ ap (λ b. span_has s k || b) (has_below s.hi k l.0 d.1 d.2 (omega (arith, far))) ∙ or-false (span_has s k)

pub ends_beyond : (g k : ℕ) (ss : List Interval) → EndsBy g ss → EndsBy g (spans_beyond k ss)
ends_beyond g k [] e = tt
ends_beyond g k (s ∷ ss) e = elim (nat_lt k s.hi) as (λ t. EndsBy g (cond t (s ∷ ss) (spans_beyond k ss))) [ true ↦ e | false ↦ ends_beyond g k ss e.1 ]

-- the first of them ends beyond the bound
pub beyond_ends : (k : ℕ) (xs : List Interval) → EndsBeyond k (spans_beyond k xs)
beyond_ends k [] = tt
beyond_ends k (x ∷ xs) = elim (cases_lt k x.hi) [
  | inl lt ↦ subst (EndsBeyond k) (sym (beyond_first k x xs lt)) lt
  | inr ge ↦ subst (EndsBeyond k) (sym (beyond_next k x xs ge)) (beyond_ends k xs)
]
