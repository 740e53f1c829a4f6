-- `==` on sets is exact.
use Rattle.std.proofs.Common.{◌≡◌, true, List, [], ◌∷◌, refl, subst}
use Rattle.std.specs.Prelude.{◌↔◌, ◌==◌}
use Rattle.std.proofs.lemmas.Bool.{false≢true, and_parts}
use Rattle.squall_key.specs.Lemmas.{same_number, equal_to_itself}
use Rattle.squall_span.specs.Spans.{Interval, interval, interval_eq, spans_eq}

same_span : (s t : Interval) → interval_eq s t ≡ true → s ≡ t
same_span s t e =
    let parts = and_parts (s.lo == t.lo) (s.hi == t.hi) e in
    λ i. interval (same_number s.lo t.lo parts.0 i) (same_number s.hi t.hi parts.1 i)

equal_from_test : (a b : List Interval) → spans_eq a b ≡ true → a ≡ b
equal_from_test [] [] e = refl
equal_from_test [] (t ∷ ts) e = absurd (false≢true e)
equal_from_test (s ∷ ss) [] e = absurd (false≢true e)
equal_from_test (s ∷ ss) (t ∷ ts) e =
    let parts = and_parts (interval_eq s t) (spans_eq ss ts) e in
    λ i. same_span s t parts.0 i ∷ equal_from_test ss ts parts.1 i

test_itself : (a : List Interval) → spans_eq a a ≡ true
test_itself [] = refl
test_itself (s ∷ ss) = rw (equal_to_itself s.lo, equal_to_itself s.hi) (test_itself ss)

pub spans_eq-exact : (a b : List Interval) → (spans_eq a b ≡ true) ↔ (a ≡ b)
spans_eq-exact a b = (equal_from_test a b, λ e. subst (λ l. spans_eq a l ≡ true) e (test_itself a))
