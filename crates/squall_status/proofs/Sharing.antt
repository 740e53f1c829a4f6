-- What a span shares with spans in order.
use Rattle.std.proofs.Common.{◌≡◌, ℕ, ◌+◌, ◌-◌, ◌<◌, ◌≤◌, min, max, Bool, true, false, cond, List, [], ◌∷◌, refl, sym, ap, ◌∙◌, arith, inl, inr, ◌||◌}
use Rattle.std.specs.Prelude.{◌&&◌, nat_lt, nat_le, Option, Some, None}
use Rattle.std.proofs.Math.Bool.{and-false}
use Rattle.std.proofs.lemmas.Bool.{cases_lt}
use Rattle.std.proofs.lemmas.Bool.Decides.{nat_tests}
use Rattle.squall_key.specs.Keys.{top}
use Rattle.squall_span.specs.Spans.{Interval, interval, span_at, span_has, has, Beyond, IsCanonical, EndsBeyond, spans_beyond, how_many}
use Rattle.squall_span.specs.SpanLaws.{has_below, has_in, has_after, has_first, outside_below, outside_above}
use Rattle.squall_span.specs.BeyondLaws.{canonical_beyond, beyond_ends, has_beyond}
use Rattle.squall_status.specs.Coming.{IsFirstMissing}
use Rattle.squall_status.specs.Steps.{shared_count, start_upto, missing_in, AreBeyond}
use Rattle.squall_status.proofs.Counts.{same_many, many_upto, many_none, many_either, many_of_span}

-- ---- the spans from a bound on

pub are_beyond : (set : List Interval) (bound : ℕ) → IsCanonical set → AreBeyond set bound (spans_beyond bound set)
are_beyond set bound c = record {
  canonical = canonical_beyond bound set c;
  ends = beyond_ends bound set;
  same = λ k le. has_beyond bound k set le;
}

-- ---- how many keys are shared

-- the key lies in the span and in the spans
abbrev both : Interval → List Interval → ℕ → Bool
both span ss k = span_has span k && has ss k

within : (s : Interval) (k : ℕ) → span_has s k ≡ true → (s.lo ≤ k) × (k < s.hi)
within s k e = grind (arith, nat_tests)

one_shared : (span s : Interval) (k : ℕ) → (span_has span k && span_has s k) ≡ span_has (interval (max s.lo span.lo) (min s.hi span.hi)) k
one_shared span s k = grind (arith, nat_tests)

split_and : (a b c : Bool) → (a && (b || c)) ≡ ((a && b) || (a && c))
split_and true b c = refl
split_and false b c = refl

-- a key of one span is in no later one
apart : (span s : Interval) (ss : List Interval) (k : ℕ) → Beyond s.hi ss → IsCanonical ss → ((span_has span k && span_has s k) && (span_has span k && has ss k)) ≡ false
apart span s ss k b c = elim (cases_lt k s.hi) [
  | inl low ↦ ap (λ x. (span_has span k && span_has s k) && (span_has span k && x)) (has_below s.hi k ss b c (omega arith)) ∙ no_second (span_has span k) (span_has s k)
  | inr high ↦ ap (λ x. (span_has span k && x) && (span_has span k && has ss k)) (outside_above s k high) ∙ no_first (span_has span k) (has ss k)
]
  where
    no_second : (a b : Bool) → ((a && b) && (a && false)) ≡ false
    no_second true true = refl
    no_second true false = refl
    no_second false b = refl

    no_first : (a b : Bool) → ((a && false) && (a && b)) ≡ false
    no_first true b = refl
    no_first false b = refl

-- the spans end beyond the start of the span, the first one and so all
rest_beyond : (bound : ℕ) (s : Interval) (ss : List Interval) → bound < s.hi → Beyond s.hi ss → IsCanonical ss → EndsBeyond bound ss
rest_beyond bound s [] lt b c = tt
rest_beyond bound s (t ∷ ts) lt b c = omega (arith, b, c.0)

pub shared_is_many : (span : Interval) (ss : List Interval) → span.lo < span.hi → span.hi ≤ top → IsCanonical ss → EndsBeyond span.lo ss → shared_count span ss ≡ how_many (both span ss) top
shared_is_many span [] full high c b = sym (many_none (both span []) top (λ k lt. and-false (span_has span k)))
shared_is_many span (s ∷ ss) full high c b =
    elim (nat_lt (max s.lo span.lo) (min s.hi span.hi)) as (λ t. nat_lt (max s.lo span.lo) (min s.hi span.hi) ≡ t → cond t ((min s.hi span.hi - max s.lo span.lo) + shared_count span ss) 0 ≡ how_many (both span (s ∷ ss)) top) [
      | true ↦ λ e. some (grind (arith, nat_tests)) (shared_is_many span ss full high c.2 (rest_beyond span.lo s ss b c.1 c.2))
      | false ↦ λ e. none (starts_later (grind (arith, nat_tests)))
    ] refl
  where
    starts_later : min s.hi span.hi ≤ max s.lo span.lo → span.hi ≤ s.lo
    starts_later le = omega (arith, c.0, b)

    none : span.hi ≤ s.lo → 0 ≡ how_many (both span (s ∷ ss)) top
    none le = sym (many_none (both span (s ∷ ss)) top (λ k lt. outside k))
      where
        outside : (k : ℕ) → both span (s ∷ ss) k ≡ false
        outside k = elim (cases_lt k s.lo) [
          | inl low ↦ ap (λ x. span_has span k && x) (ap (λ x. x || has ss k) (outside_below s k low) ∙ has_below s.hi k ss c.1 c.2 (omega (arith, c.0))) ∙ and-false (span_has span k)
          | inr from ↦ ap (λ x. x && has (s ∷ ss) k) (outside_above span k (omega arith))
        ]

    some : max s.lo span.lo < min s.hi span.hi → shared_count span ss ≡ how_many (both span ss) top → (min s.hi span.hi - max s.lo span.lo) + shared_count span ss ≡ how_many (both span (s ∷ ss)) top
    some lt later =
        let here = same_many (λ k. span_has span k && span_has s k) (span_has (interval (max s.lo span.lo) (min s.hi span.hi))) top (λ k _. one_shared span s k) ∙ many_of_span (interval (max s.lo span.lo) (min s.hi span.hi)) top lt (omega arith) in
        let sum = many_either (λ k. span_has span k && span_has s k) (both span ss) top (λ k. apart span s ss k c.1 c.2) in
        let whole = same_many (both span (s ∷ ss)) (λ k. (span_has span k && span_has s k) || both span ss k) top (λ k _. split_and (span_has span k) (span_has s k) (has ss k)) in
        sym (whole ∙ sum ∙ ap (λ m. m + how_many (both span ss) top) here ∙ ap (λ m. (min s.hi span.hi - max s.lo span.lo) + m) (sym later))

pub shared_few : (span : Interval) (ss : List Interval) → span.lo < span.hi → span.hi ≤ top → IsCanonical ss → EndsBeyond span.lo ss → shared_count span ss ≤ top
shared_few span ss full high c b = omega (arith, shared_is_many span ss full high c b, many_upto (both span ss) top)

-- ---- the first that are missing

-- the first run of keys of the span that are missing, or that none is
abbrev pub IsMissing : Interval → (ℕ → Bool) → Option Interval → Type 0
IsMissing span come None = (k : ℕ) → span_has span k ≡ true → come k ≡ true
IsMissing span come (Some run) = IsFirstMissing span come run

-- from a bound on the set has no key before the next span begins
gap_before : (ss : List Interval) (bound end k : ℕ) → IsCanonical ss → bound ≤ k → k < start_upto end ss → has ss k ≡ false
gap_before [] bound end k c le lt = refl
gap_before (s ∷ ss) bound end k c le lt = ap (λ x. x || has ss k) (outside_below s k (omega arith)) ∙ has_below s.hi k ss c.1 c.2 (omega (arith, c.0))

start_at_most : (end : ℕ) (ss : List Interval) → start_upto end ss ≤ end
start_at_most end [] = omega arith
start_at_most end (s ∷ ss) = omega arith

-- if it begins before the bound, it has a key there
start_has : (ss : List Interval) (end : ℕ) → IsCanonical ss → start_upto end ss < end → has ss (start_upto end ss) ≡ true
start_has [] end c lt = absurd (omega arith)
start_has (s ∷ ss) end c lt = let at : start_upto end (s ∷ ss) ≡ s.lo = omega arith in rw at (has_first s ss c.0)

-- no span begins up to the bound, so that the next one begins beyond it, or the end is up to it
end_upto : (from end : ℕ) (ss : List Interval) → Beyond from ss → start_upto end ss ≤ from → end ≤ from
end_upto from end [] b le = le
end_upto from end (s ∷ ss) b le = omega (arith, b)

-- the keys before a bound have come, and from there on those of the spans have, which begin beyond it
module _ (span : Interval) (come : ℕ → Bool) (from : ℕ) (ss : List Interval) (low : span.lo ≤ from) (before : (k : ℕ) → span.lo ≤ k → k < from → come k ≡ true) (same : (k : ℕ) → from ≤ k → come k ≡ has ss k) (c : IsCanonical ss) (ahead : Beyond from ss) where
  missing_by : (b : Bool) → nat_lt from (start_upto span.hi ss) ≡ b → IsMissing span come (cond b (Some (interval from (start_upto span.hi ss))) None)
  missing_by true e =
      let lt : from < start_upto span.hi ss = grind (arith, nat_tests) in
      record {
        some = lt;
        from = low;
        upto = start_at_most span.hi ss;
        missing = λ k ge less. same k ge ∙ gap_before ss from span.hi k c ge less;
        least = before;
        longest = λ less. same (start_upto span.hi ss) (omega arith) ∙ start_has ss span.hi c less;
      }
  missing_by false e = λ k is.
      let w = within span k is in
      let le : start_upto span.hi ss ≤ from = grind (arith, nat_tests) in
      before k w.0 (omega (arith, w.1, end_upto from span.hi ss ahead le))

  missing_at : IsMissing span come (span_at from (start_upto span.hi ss))
  missing_at = missing_by (nat_lt from (start_upto span.hi ss)) refl

-- the first of the missing, if the spans that end beyond the start of the span are all
pub missing_is : (span : Interval) (ss : List Interval) → span.lo < span.hi → IsCanonical ss → EndsBeyond span.lo ss → IsMissing span (has ss) (missing_in span ss)
missing_is span [] full c b = record {
  some = full;
  from = omega arith;
  upto = omega arith;
  missing = λ k ge lt. refl;
  least = λ k ge lt. absurd (omega arith);
  longest = λ lt. absurd (omega arith);
}
missing_is span (s ∷ ss) full c b =
    elim (nat_le s.lo span.lo) as (λ t. nat_le s.lo span.lo ≡ t → IsMissing span (has (s ∷ ss)) (cond t (span_at s.hi (start_upto span.hi ss)) (span_at span.lo (min s.lo span.hi)))) [
      | true ↦ λ e. let le : s.lo ≤ span.lo = grind (arith, nat_tests) in missing_at span (has (s ∷ ss)) s.hi ss (omega (arith, b)) (λ k ge less. has_in s ss k (omega arith) less) (λ k ge. has_after s ss k ge) c.2 c.1
      | false ↦ λ e. let lt : span.lo < s.lo = grind (arith, nat_tests) in missing_at span (has (s ∷ ss)) span.lo (s ∷ ss) (omega arith) (λ k ge less. absurd (omega arith)) (λ k ge. refl) c lt
    ] refl
