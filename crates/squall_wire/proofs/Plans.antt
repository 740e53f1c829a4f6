-- Ranges in the order of a plan are the list of a plan.
use Rattle.std.proofs.Common.{◌≡◌, ℕ, ◌<◌, ◌≤◌, ◌==◌, true, List, [], ◌∷◌, length, Option, Some, refl, sym, ap, ◌∙◌, arith}
use Rattle.std.specs.Prelude.{◌≢◌, not, nat_lt}
use Rattle.std.proofs.lemmas.Bool.{and_parts}
use Rattle.std.proofs.lemmas.Bool.Decides.{nat_tests}
use Rattle.squall_key.specs.Keys.{top, part_limit}
use Rattle.squall_plan.specs.declared.range.PlanRange.{PlanRange}
use Rattle.squall_plan.specs.Ranges.{AreRanges, IsTiling, DifferFrom, Differ, IsCanonical}
use Rattle.squall_wire.specs.Limits.{AreInTurn, PlanPoint, plan_start, range_in_range, is_other_part, after_range, plan_count_in_range, FitsRange, FitsPlan}

-- what the tests of a range say
record Told (p : PlanPoint) (r : PlanRange) : Type 0 where
  high : r.span.hi ≤ top
  ends : p.left ≡ 1 → r.span.hi ≡ top
  part : r.part < part_limit
  some : p.from < r.span.hi
  other : is_other_part p.before r.part ≡ true

told : (p : PlanPoint) (r : PlanRange) → FitsRange p r → Told p r
told p r f =
    let order = and_parts (nat_lt p.from r.span.hi) (is_other_part p.before r.part) f.order in
    record { high = by_range p r f.range; ends = λ one. at_top p r f.range one; part = part_low p r f.range; some = below p.from r.span.hi order.0; other = order.1 }
  where
    below : (x y : ℕ) → nat_lt x y ≡ true → x < y
    below x y h = grind (arith, nat_tests)

    by_range : (q : PlanPoint) (s : PlanRange) → range_in_range q s ≡ true → s.span.hi ≤ top
    by_range q s h = grind (arith, nat_tests)

    at_top : (q : PlanPoint) (s : PlanRange) → range_in_range q s ≡ true → q.left ≡ 1 → s.span.hi ≡ top
    at_top q s h one = grind (arith, nat_tests)

    part_low : (q : PlanPoint) (s : PlanRange) → range_in_range q s ≡ true → s.part < part_limit
    part_low q s h = grind (arith, nat_tests)

tiles : (p : PlanPoint) (rs : List PlanRange) → p.left ≡ length rs → 1 ≤ length rs → AreInTurn FitsRange after_range p rs → IsTiling p.from top rs
tiles p [] left some turn = absurd (omega arith)
tiles p (r ∷ []) left some turn =
    let t = told p r turn.0 in
    (turn.0.from, omega (arith, turn.0.from, t.some), t.ends (omega arith))
tiles p (r ∷ s ∷ rs) left some turn =
    let t = told p r turn.0 in
    (turn.0.from, omega (arith, turn.0.from, t.some), tiles (after_range p r) (s ∷ rs) (omega arith) (omega arith) turn.1)

others : (r : PlanRange) (p : PlanPoint) (rs : List PlanRange) → p.before ≡ Some r.part → AreInTurn FitsRange after_range p rs → DifferFrom r rs
others r p [] before turn = tt
others r p (s ∷ rs) before turn =
    let t = told p s turn.0 in
    let other : not (r.part == s.part) ≡ true = ap (λ (b : Option ℕ). is_other_part b s.part) (sym before) ∙ t.other in
    (differs r.part s.part other, others s (after_range p s) rs refl turn.1)
  where
    differs : (x y : ℕ) → not (x == y) ≡ true → x ≢ y
    differs x y h e = grind (arith, nat_tests)

are_ranges : (p : PlanPoint) (rs : List PlanRange) → AreInTurn FitsRange after_range p rs → AreRanges rs
are_ranges p [] turn = tt
are_ranges p (r ∷ rs) turn =
    let t = told p r turn.0 in
    ((omega (arith, turn.0.from, t.some), t.high, t.part), are_ranges (after_range p r) rs turn.1)

differ : (p : PlanPoint) (rs : List PlanRange) → AreInTurn FitsRange after_range p rs → Differ rs
differ p [] turn = tt
differ p (r ∷ rs) turn = others r (after_range p r) rs refl turn.1

at_least_one : (n : ℕ) → plan_count_in_range n ≡ true → 1 ≤ n
at_least_one n h = grind (arith, nat_tests)

pub fits_canonical : (rs : List PlanRange) → FitsPlan rs → IsCanonical rs
fits_canonical rs fits = record { tiles = tiles (plan_start (length rs)) rs refl (at_least_one (length rs) fits.count) fits.turn; differ = differ (plan_start (length rs)) rs fits.turn }

pub fits_ranges : (rs : List PlanRange) → FitsPlan rs → AreRanges rs
fits_ranges rs fits = are_ranges (plan_start (length rs)) rs fits.turn
