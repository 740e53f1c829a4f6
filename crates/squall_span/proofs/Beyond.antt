-- The spans of a set from a bound on.
use Rattle.std.proofs.Common.{◌≡◌, ℕ, zero, suc, ◌+◌, ◌<◌, ◌≤◌, List, [], ◌∷◌, length, get_or, drop, None, Some, refl, sym, ap, ◌∙◌, arith}
use Rattle.squall_span.specs.Spans.{Interval, IsCanonical, EndsBy, first_span, spans_beyond, total_length}
use Rattle.squall_span.specs.BeyondLaws.{beyond_first, beyond_next}
use Rattle.squall_span.specs.Places.{Ended}
use Rattle.std.proofs.lemmas.List.{drop_all}
use Rattle.squall_span.proofs.Places.{from_place}

ended_tail : (x : Interval) (xs : List Interval) (bound i : ℕ) → Ended (x ∷ xs) bound (suc i) → Ended xs bound i
ended_tail x xs bound i e = record {
  within = omega (arith, e.within);
  before = λ j d lt. e.before (suc j) d (omega arith);
  from = λ j d le lt. e.from (suc j) d (omega arith) (omega arith);
}

-- those behind the place that a search found
pub ended_beyond : (xs : List Interval) (bound i : ℕ) → Ended xs bound i → spans_beyond bound xs ≡ drop i xs
ended_beyond [] bound zero e = refl
ended_beyond [] bound (suc i) e = refl
ended_beyond (x ∷ xs) bound zero e = beyond_first bound x xs (e.from 0 x (omega arith) (omega arith))
ended_beyond (x ∷ xs) bound (suc i) e = beyond_next bound x xs (e.before 0 x (omega arith)) ∙ ended_beyond xs bound i (ended_tail x xs bound i e)

-- ---- how many keys spans have

total_from : (b h : ℕ) (s : Interval) (ss : List Interval) → b ≤ s.lo → IsCanonical (s ∷ ss) → EndsBy h (s ∷ ss) → b + total_length (s ∷ ss) ≤ h
total_from b h s [] le c e = omega (arith, c.0, e.0)
total_from b h s (t ∷ ts) le c e =
    let rest = total_from s.hi h t ts (omega (arith, c.1)) c.2 e.1 in
    omega (arith, rest, c.0)

pub total_within : (h : ℕ) (ss : List Interval) → IsCanonical ss → EndsBy h ss → total_length ss ≤ h
total_within h [] c e = omega arith
total_within h (s ∷ ss) c e = let all = total_from 0 h s ss (omega arith) c e in omega (arith, all)

-- what a search for the first span beyond a bound finds
pub first_found : (read v xs : List Interval) (bound i : ℕ) (x : Interval) → read ≡ xs → xs ≡ v → Ended read bound i → i < length xs → x ≡ get_or xs i x → Some x ≡ first_span (spans_beyond bound v)
first_found read v xs bound i x r is e lt at =
    sym (ap first_span (from_place xs i x lt at)) ∙ sym (ap (λ l. first_span (drop i l)) r) ∙ sym (ap first_span (ended_beyond read bound i e)) ∙ ap (λ l. first_span (spans_beyond bound l)) (r ∙ is)

pub none_found : (read v xs : List Interval) (bound i : ℕ) → read ≡ xs → xs ≡ v → Ended read bound i → length xs ≤ i → None ≡ first_span (spans_beyond bound v)
none_found read v xs bound i r is e le =
    sym (ap first_span (drop_all i xs le)) ∙ sym (ap (λ l. first_span (drop i l)) r) ∙ sym (ap first_span (ended_beyond read bound i e)) ∙ ap (λ l. first_span (spans_beyond bound l)) (r ∙ is)
