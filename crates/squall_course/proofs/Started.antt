-- The first span of a set beyond a bound, and what it says of a span.
use Rattle.std.proofs.Common.{◌≡◌, ℕ, ◌<◌, ◌≤◌, max, true, false, List, [], ◌∷◌, Option, Some, None, refl, sym, subst, ◌∙◌, arith, inl, inr}
use Rattle.std.specs.Prelude.{◌⊎◌}
use Rattle.std.proofs.lemmas.Bool.{cases_lt, or_right}
use Rattle.squall_span.specs.Spans.{Interval, span_has, has, IsCanonical, first_span, spans_beyond}
use Rattle.squall_span.specs.SpanLaws.{has_below, has_in, has_after, inside, outside_below}
use Rattle.squall_span.specs.BeyondLaws.{beyond_first, beyond_next}
use Rattle.squall_course.specs.Steps.{IsFirstSpan, IsFirst}
use Rattle.squall_course.proofs.Moved.{within}

-- the first span that ends beyond the bound
first_is : (from : ℕ) (xs : List Interval) → IsCanonical xs → IsFirst xs from (first_span (spans_beyond from xs))
first_is from [] c = λ k le. refl
first_is from (x ∷ xs) c = elim (cases_lt from x.hi) [
  | inl lt ↦ subst (λ l. IsFirst (x ∷ xs) from (first_span l)) (sym (beyond_first from x xs lt)) (record {
    ends = lt;
    inside = λ k ge upto. has_in x xs k ge upto;
    before = λ k ge upto. rw (outside_below x k upto) (has_below x.hi k xs c.1 c.2 (omega (arith, c.0)));
    after = has_after x xs x.hi (omega arith) ∙ has_below x.hi x.hi xs c.1 c.2 (omega arith);
  })
  | inr ge ↦ subst (λ l. IsFirst (x ∷ xs) from (first_span l)) (sym (beyond_next from x xs ge)) (later (first_span (spans_beyond from xs)) ge (first_is from xs c.2))
]
  where
    later : (o : Option Interval) → x.hi ≤ from → IsFirst xs from o → IsFirst (x ∷ xs) from o
    later None le f = λ k ge. has_after x xs k (omega arith) ∙ f k ge
    later (Some s) le f = record {
      ends = f.ends;
      inside = λ k ge lt. or_right (span_has x k) (has xs k) (f.inside k ge lt);
      before = λ k ge lt. has_after x xs k (omega arith) ∙ f.before k ge lt;
      after = has_after x xs s.hi (omega (arith, f.ends)) ∙ f.after;
    }

pub first_by_bound : (set : List Interval) (from : ℕ) (o : Option Interval) → IsCanonical set → o ≡ first_span (spans_beyond from set) → IsFirst set from o
first_by_bound set from o c is = subst (IsFirst set from) (sym is) (first_is from set c)

pub none_started : (span : Interval) (set : List Interval) → ((k : ℕ) → span.lo ≤ k → has set k ≡ false) → (k : ℕ) → span_has span k ≡ true → has set k ≡ false
none_started span set none k is = let w = within span k is in none k (omega (arith, w.0))

pub not_started : (span s : Interval) (set : List Interval) → IsFirstSpan set span.lo s → span.hi ≤ s.lo → (k : ℕ) → span_has span k ≡ true → has set k ≡ false
not_started span s set f le k is = let w = within span k is in f.before k (omega (arith, w.0)) (omega (arith, w.1))

pub complete : (span s : Interval) (set : List Interval) → IsFirstSpan set span.lo s → s.lo ≤ span.lo → span.hi ≤ s.hi → (k : ℕ) → span_has span k ≡ true → has set k ≡ true
complete span s set f le high k is = let w = within span k is in f.inside k (omega (arith, w.0)) (omega (arith, w.1))

pub partial : (span s : Interval) (set : List Interval) → IsFirstSpan set span.lo s → span.lo < span.hi → s.lo < s.hi → s.lo < span.hi → (span.lo < s.lo) ⊎ (s.hi < span.hi)
    → ((k : ℕ) × (span_has span k ≡ true) × (has set k ≡ true)) × ((k : ℕ) × (span_has span k ≡ true) × (has set k ≡ false))
partial span s set f full some meets out = (
  (max span.lo s.lo, inside span (max span.lo s.lo) (omega arith) (omega arith), f.inside (max span.lo s.lo) (omega arith) (omega (arith, f.ends))),
  elim (cases_lt span.lo s.lo) [
    | inl lt ↦ (span.lo, inside span span.lo (omega arith) full, f.before span.lo (omega arith) lt)
    | inr le ↦ (s.hi, inside span s.hi (omega (arith, f.ends)) (elim out [ inl bad ↦ absurd (omega arith) | inr lt ↦ lt ]), f.after)
  ],
)
