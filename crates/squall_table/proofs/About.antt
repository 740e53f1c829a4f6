-- The legs near a set.
use Rattle.std.proofs.Common.{◌≡◌, ℕ, ◌<◌, ◌≤◌, true, Some, List, [], ◌∷◌, sym, ap, ◌∙◌, arith, inl, inr}
use Rattle.std.specs.Prelude.{IsTrue, nat_le}
use Rattle.std.proofs.lemmas.Bool.{cases_lt}
use Rattle.std.proofs.lemmas.Bool.Decides.{nat_tests}
use Rattle.squall_span.specs.Spans.{Interval, first_span, spans_beyond}
use Rattle.squall_span.specs.BeyondLaws.{beyond_first, beyond_next}
use Rattle.squall_table.specs.Reach.{is_near}

-- the first span beyond a bound is near what shares a key with it or borders on it
pub near_first : (ss : List Interval) (b : ℕ) (s t : Interval) → first_span (spans_beyond b ss) ≡ Some s → s.lo < s.hi → t.lo ≤ t.hi → s.lo ≤ t.hi → t.lo ≤ s.hi → is_near ss t ≡ true
near_first [] b s t e x y p q = absurd cc
near_first (u ∷ us) b s t e x y p q = elim (cases_lt b u.hi) [
  | inl lt ↦ (let same : u ≡ s = (let got : first_span (u ∷ us) ≡ Some s = ap first_span (sym (beyond_first b u us lt)) ∙ e in cc) in here (sym same))
  | inr ge ↦ later (near_first us b s t (ap first_span (sym (beyond_next b u us ge)) ∙ e) x y p q)
]
  where
    here : s ≡ u → is_near (u ∷ us) t ≡ true
    here same = let low = ap (λ (v : Interval). v.lo) same in let high = ap (λ (v : Interval). v.hi) same in grind (arith, nat_tests)

    later : is_near us t ≡ true → is_near (u ∷ us) t ≡ true
    later rest = grind (arith, nat_tests, rest)

pub le_of : (a b x y : ℕ) → IsTrue (nat_le a b) → a ≡ x → b ≡ y → x ≤ y
le_of a b x y test p q = let le : a ≤ b = grind (arith, nat_tests, test) in omega (arith, le, p, q)
