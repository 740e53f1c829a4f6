-- What the first span of a list says of the others.
use Rattle.std.proofs.Common.{◌≡◌, ℕ, ◌<◌, ◌≤◌, true, false, List, [], ◌∷◌, sym, ap, ◌∙◌, arith, inl, inr, ◌||◌}
use Rattle.std.proofs.lemmas.Bool.{cases_lt, false≢true}
use Rattle.squall_span.specs.Spans.{Interval, has, IsCanonical, EndsBeyond}
use Rattle.squall_span.specs.SpanLaws.{has_below, outside_above}

-- no key before the first span
pub has_early : (k : ℕ) (s : Interval) (ss : List Interval) → IsCanonical (s ∷ ss) → k < s.lo → has (s ∷ ss) k ≡ false
has_early k s ss c lt = has_below k k (s ∷ ss) lt c (omega arith)

-- the spans after the first end beyond its end
pub rest_ends : (s : Interval) (ss : List Interval) (h : ℕ) → IsCanonical (s ∷ ss) → h ≤ s.hi → EndsBeyond h ss
rest_ends s [] h c le = tt
rest_ends s (t ∷ ts) h c le = omega (arith, c.1, c.2.0)

-- the first span has the least key, and its end is no key
pub first_least : (s : Interval) (ss : List Interval) (k : ℕ) → IsCanonical (s ∷ ss) → has (s ∷ ss) k ≡ true → s.lo ≤ k
first_least s ss k c h = elim (cases_lt k s.lo) [
  | inl below ↦ absurd (false≢true (sym (has_early k s ss c below) ∙ h))
  | inr from ↦ from
]

pub first_ends : (s : Interval) (ss : List Interval) → IsCanonical (s ∷ ss) → has (s ∷ ss) s.hi ≡ false
first_ends s ss c = ap (λ b. b || has ss s.hi) (outside_above s s.hi (omega arith)) ∙ has_below s.hi s.hi ss c.1 c.2 (omega arith)
