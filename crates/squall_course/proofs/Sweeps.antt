-- What the sweep over two plans leaves behind.
use Rattle.std.proofs.Common.{◌≡◌, ℕ, suc, ◌+◌, ◌<◌, ◌≤◌, false, List, [], ◌∷◌, ◌++◌, length, get_or, drop, None, refl, sym, ap, ◌∙◌, arith, add-one, drop-cons}
use Rattle.std.proofs.lemmas.Bool.Decides.{nat_tests}
use Rattle.squall_span.specs.Spans.{Interval}
use Rattle.squall_plan.specs.declared.range.PlanRange.{PlanRange}
use Rattle.squall_key.specs.Keys.{top}
use Rattle.squall_plan.specs.Ranges.{IsTiling}
use Rattle.squall_course.specs.Subplans.{shares}
use Rattle.squall_course.specs.Moves.{transfer, listed, row, transfers}
use Rattle.squall_course.specs.Steps.{Follow}

pub none_shared : (a b : Interval) → b.hi ≤ a.lo → shares a b ≡ false
none_shared a b le = grind (arith, nat_tests)

pub none_shared_after : (a b : Interval) → a.hi ≤ b.lo → shares a b ≡ false
none_shared_after a b le = grind (arith, nat_tests)

no_transfer : (r s : PlanRange) → shares r.span s.span ≡ false → transfer r s ≡ None
no_transfer r s e = rw e refl

pub row_past : (r s : PlanRange) (ss : List PlanRange) → s.span.hi ≤ r.span.lo → row r (s ∷ ss) ≡ row r ss
row_past r s ss le = ap (λ p. listed p ++ row r ss) (no_transfer r s (none_shared r.span s.span le))

pub row_beyond : (r : PlanRange) (from : ℕ) (ss : List PlanRange) → Follow from ss → r.span.hi ≤ from → row r ss ≡ []
row_beyond r from [] f le = refl
row_beyond r from (s ∷ ss) f le =
    ap (λ p. listed p ++ row r ss) (no_transfer r s (none_shared_after r.span s.span (omega (arith, f.0)))) ∙ row_beyond r s.span.hi ss f.2 (omega (arith, f.0, f.1))

pub follow_weaker : (from low : ℕ) (ss : List PlanRange) → low ≤ from → Follow from ss → Follow low ss
follow_weaker from low [] le f = tt
follow_weaker from low (s ∷ ss) le f = (omega (arith, f.0), f.1, f.2)

pub follow_tiling : (from : ℕ) (ss : List PlanRange) → IsTiling from top ss → Follow from ss
follow_tiling from [] t = tt
follow_tiling from (s ∷ ss) t = (omega (arith, t.0), t.1, follow_tiling s.span.hi ss t.2)

pub split_at : (s : PlanRange) (xs : List PlanRange) (i : ℕ) → i < length xs → s ≡ get_or xs i s → drop i xs ≡ s ∷ drop (i + 1) xs
split_at s xs i lt e = rw add-one (drop-cons xs i s lt ∙ ap (λ (x : PlanRange). x ∷ drop (suc i) xs) (sym e))

-- one step of the row of a range
pub row_step : (r s : PlanRange) (xs : List PlanRange) (i : ℕ) → i < length xs → s ≡ get_or xs i s → row r (drop i xs) ≡ listed (transfer r s) ++ row r (drop (i + 1) xs)
row_step r s xs i lt e = rw (split_at s xs i lt e) refl

pub follow_step : (low : ℕ) (s : PlanRange) (xs : List PlanRange) (i : ℕ) → i < length xs → s ≡ get_or xs i s → Follow low (drop i xs) → (low ≤ s.span.lo) × (s.span.lo < s.span.hi) × Follow s.span.hi (drop (i + 1) xs)
follow_step low s xs i lt e f = rw (split_at s xs i lt e) at f

pub transfers_step : (r : PlanRange) (rs ss : List PlanRange) (i : ℕ) → i < length rs → r ≡ get_or rs i r → transfers (drop i rs) ss ≡ row r ss ++ transfers (drop (i + 1) rs) ss
transfers_step r rs ss i lt e = rw (split_at r rs i lt e) refl
