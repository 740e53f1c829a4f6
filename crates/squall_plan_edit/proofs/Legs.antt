-- The ranges that have each key where it is to be: how they grow, and that they are the plan.
use Rattle.std.proofs.Common.{◌≡◌, ℕ, zero, suc, ◌<◌, ◌≤◌, ◌++◌, true, List, [], ◌∷◌, length, get_or, refl, sym, ◌∙◌, subst, arith, inl, inr}
use Rattle.std.specs.Prelude.{◌≢◌, ◌==◌}
use Rattle.std.proofs.lemmas.Bool.{cases_lt}
use Rattle.std.proofs.lemmas.Bool.Decides.{nat_tests}
use Rattle.squall_key.specs.Keys.{top}
use Rattle.squall_key.specs.Search.{EndedBy}
use Rattle.squall_plan.specs.declared.range.PlanRange.{PlanRange}
use Rattle.squall_plan.specs.Ranges.{owner_of, IsTiling, DifferFrom, IsCanonical}
use Rattle.squall_plan.specs.PlanLaws.{owner_first, owner_later, differ_rest, tiling_ends}
use Rattle.squall_plan.specs.Arranged.{ended_at, range_limit}
use Rattle.squall_plan.proofs.Canonical.{same_list}
use Rattle.squall_plan_edit.specs.Moved.{HasOwners}
use Rattle.squall_plan_edit.specs.Legs.{IsHeld, IsLeg, AreLegs}

-- ---- the range that a search finds

abbrev hi_of : PlanRange → ℕ
hi_of r = r.span.hi

tail_ended : (at i : ℕ) (r : PlanRange) (rs : List PlanRange) → EndedBy hi_of (r ∷ rs) at (suc i) → EndedBy hi_of rs at i
tail_ended at i r rs m = record {
  within = omega (arith, m.within);
  before = λ j d lt. m.before (suc j) d (omega arith);
  from = λ j d le lt. m.from (suc j) d (omega arith) (omega arith);
}

pub found_within : (from at : ℕ) (rs : List PlanRange) (i : ℕ) → IsTiling from top rs → from ≤ at → at < top → EndedBy hi_of rs at i → i < length rs
found_within from at [] i t le below m = absurd (omega (arith, t))
found_within from at (r ∷ rs) zero t le below m = omega arith
found_within from at (r ∷ rs) (suc i) t le below m =
    let past : r.span.hi ≤ at = m.before 0 r (omega arith) in
    let rest = found_within r.span.hi at rs i t.2 past below (tail_ended at i r rs m) in
    omega arith

found_held : (from at : ℕ) (rs : List PlanRange) (i : ℕ) (d : PlanRange) → IsTiling from top rs → from ≤ at → at < top → EndedBy hi_of rs at i → IsHeld (owner_of rs) at (get_or rs i d)
found_held from at [] i d t le below m = absurd (omega (arith, t))
found_held from at (r ∷ rs) zero d t le below m =
    record { beyond = m.from 0 r (omega arith) (omega arith); keys = λ k ge lt. owner_first k r rs (omega (arith, t.0)) lt }
found_held from at (r ∷ rs) (suc i) d t le below m =
    let past : r.span.hi ≤ at = m.before 0 r (omega arith) in
    let rest = found_held r.span.hi at rs i d t.2 past below (tail_ended at i r rs m) in
    record { beyond = rest.beyond; keys = λ k ge lt. owner_later k r rs (omega arith) ∙ rest.keys k ge lt }

pub held_at : (at : ℕ) (rs : List PlanRange) (i : ℕ) (r : PlanRange) → IsCanonical rs → at < top → EndedBy hi_of rs at i → r ≡ get_or rs i r → IsHeld (owner_of rs) at r
held_at at rs i r is below m same = subst (IsHeld (owner_of rs) at) (sym same) (found_held 0 at rs i r is.tiles (omega arith) below m)

-- ---- one range more

pub equal_parts : (p q : ℕ) → p ≡ q → (p == q) ≡ true
equal_parts p q e = grind (arith, nat_tests, e)

-- the first of them
pub first_leg : (f : ℕ → ℕ) (at : ℕ) (r : PlanRange) → IsLeg f at r → AreLegs f at r.span.hi (r ∷ [])
first_leg f at r leg = record {
  tiles = (leg.starts, leg.range.0, refl);
  differ = tt;
  ranges = (leg.range, tt);
  owners = λ k ge lt. owner_first k r [] (omega (arith, leg.starts, ge)) lt ∙ sym (leg.keys k ge lt);
}

-- without the first
legs_rest : (f : ℕ → ℕ) (from to : ℕ) (x : PlanRange) (xs : List PlanRange) → AreLegs f from to (x ∷ xs) → AreLegs f x.span.hi to xs
legs_rest f from to x xs are = record {
  tiles = are.tiles.2;
  differ = differ_rest x xs are.differ;
  ranges = are.ranges.1;
  owners = λ k ge lt. sym (owner_later k x xs ge) ∙ are.owners k (omega (arith, are.tiles.0, are.tiles.1, ge)) lt;
}

-- with the first again, before others
legs_before : (f : ℕ → ℕ) (from to end : ℕ) (x : PlanRange) (xs ys : List PlanRange) → AreLegs f from to (x ∷ xs) → x.span.hi ≤ to → DifferFrom x ys → AreLegs f x.span.hi end ys → AreLegs f from end (x ∷ ys)
legs_before f from to end x xs ys are within differ rest = record {
  tiles = (are.tiles.0, are.tiles.1, rest.tiles);
  differ = differ;
  ranges = (are.ranges.0, rest.ranges);
  owners = λ k ge lt. elim (cases_lt k x.span.hi) [
    | inl in' ↦ owner_first k x ys (omega (arith, are.tiles.0, ge)) in' ∙ sym (owner_first k x xs (omega (arith, are.tiles.0, ge)) in') ∙ are.owners k ge (omega (arith, in', within))
    | inr past ↦ owner_later k x ys past ∙ rest.owners k past lt
  ];
}

differ_ended : (x run : PlanRange) (hi : ℕ) (xs : List PlanRange) → DifferFrom x (xs ++ run ∷ []) → DifferFrom x (xs ++ ended_at run hi ∷ [])
differ_ended x run hi [] d = d
differ_ended x run hi (y ∷ ys) d = (d.0, differ_ended y run hi ys d.1)

differ_next : (x run leg : PlanRange) (xs : List PlanRange) → DifferFrom x (xs ++ run ∷ []) → run.part ≢ leg.part → DifferFrom x ((xs ++ run ∷ []) ++ leg ∷ [])
differ_next x run leg [] d ne = (d.0, (ne, tt))
differ_next x run leg (y ∷ ys) d ne = (d.0, differ_next y run leg ys d.1 ne)

-- the last reaches further
pub leg_joined : (f : ℕ → ℕ) (from : ℕ) (run leg : PlanRange) (xs : List PlanRange) → AreLegs f from run.span.hi (xs ++ run ∷ []) → IsLeg f run.span.hi leg → leg.part ≡ run.part → AreLegs f from leg.span.hi (xs ++ ended_at run leg.span.hi ∷ [])
leg_joined f from run leg [] are next same = record {
  tiles = (are.tiles.0, omega (arith, are.tiles.1, next.range.0, next.starts), refl);
  differ = tt;
  ranges = ((omega (arith, are.tiles.1, next.range.0, next.starts), next.range.1, are.ranges.0.2), tt);
  owners = λ k ge lt. owner_first k (ended_at run leg.span.hi) [] (omega (arith, are.tiles.0, ge)) lt ∙ elim (cases_lt k run.span.hi) [
    | inl in' ↦ sym (owner_first k run [] (omega (arith, are.tiles.0, ge)) in') ∙ are.owners k ge in'
    | inr past ↦ sym (next.keys k past lt ∙ same)
  ];
}
leg_joined f from run leg (x ∷ xs) are next same =
    let rest = legs_rest f from run.span.hi x (xs ++ run ∷ []) are in
    legs_before f from run.span.hi leg.span.hi x (xs ++ run ∷ []) (xs ++ ended_at run leg.span.hi ∷ []) are (tiling_ends x.span.hi run.span.hi (xs ++ run ∷ []) are.tiles.2)
    (differ_ended x run leg.span.hi xs are.differ) (leg_joined f x.span.hi run leg xs rest next same)

-- another after the last
pub leg_added : (f : ℕ → ℕ) (from : ℕ) (run leg : PlanRange) (xs : List PlanRange) → AreLegs f from run.span.hi (xs ++ run ∷ []) → IsLeg f run.span.hi leg → leg.part ≢ run.part → AreLegs f from leg.span.hi ((xs ++ run ∷ []) ++ leg ∷ [])
leg_added f from run leg [] are next ne =
    legs_before f from run.span.hi leg.span.hi run [] (leg ∷ []) are (omega arith) (λ e. ne (sym e), tt) (first_leg f run.span.hi leg next)
leg_added f from run leg (x ∷ xs) are next ne =
    let rest = legs_rest f from run.span.hi x (xs ++ run ∷ []) are in
    legs_before f from run.span.hi leg.span.hi x (xs ++ run ∷ []) ((xs ++ run ∷ []) ++ leg ∷ []) are (tiling_ends x.span.hi run.span.hi (xs ++ run ∷ []) are.tiles.2)
    (differ_next x run leg xs are.differ (λ e. ne (sym e))) (leg_added f x.span.hi run leg xs rest next ne)

-- ---- at the end

pub has_owners : (f : ℕ → ℕ) (rs plan : List PlanRange) → AreLegs f 0 top rs → plan ≡ rs → HasOwners f plan
has_owners f rs plan are same = rw same (record { canonical = record { tiles = are.tiles; differ = are.differ }; ranges = are.ranges; owners = λ k lt. are.owners k (omega arith) lt })

pub too_many : (f : ℕ → ℕ) (rs plan : List PlanRange) → AreLegs f 0 top rs → HasOwners f plan → range_limit < length rs → range_limit < length plan
too_many f rs plan are has many =
    let same : plan ≡ rs = same_list plan rs has.canonical (record { tiles = are.tiles; differ = are.differ }) (λ k lt. has.owners k lt ∙ sym (are.owners k (omega arith) lt)) in
    rw same many

pub same_owners : (f g : ℕ → ℕ) (plan : List PlanRange) → ((k : ℕ) → f k ≡ g k) → HasOwners f plan → HasOwners g plan
same_owners f g plan same has = record { canonical = has.canonical; ranges = has.ranges; owners = λ k lt. has.owners k lt ∙ same k }
