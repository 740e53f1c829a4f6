-- The keys that a plan gives a partition.
use Rattle.std.proofs.Common.{◌≡◌, ℕ, ◌<◌, ◌≤◌, ◌==◌, ◌&&◌, ◌||◌, nat_lt, Bool, true, false, cond, List, [], ◌∷◌, map, filter, refl, sym, ap, ◌∙◌, arith, inl, inr}
use Rattle.std.proofs.lemmas.Bool.{cases_lt}
use Rattle.std.proofs.lemmas.Bool.Decides.{nat_tests}
use Rattle.squall_key.specs.Keys.{top}
use Rattle.squall_span.specs.Spans.{has, span_has}
use Rattle.squall_span.specs.SpanLaws.{outside_below, outside_above, inside}
use Rattle.squall_plan.specs.declared.range.PlanRange.{PlanRange}
use Rattle.squall_plan.specs.Ranges.{IsTiling, names, owner_of}
use Rattle.squall_plan.specs.PlanLaws.{owner_first, owner_later, tiling_ends}
use Rattle.squall_part.specs.Parts.{ranges_of}

-- with one range more
has_more : (id k : ℕ) (r : PlanRange) (rs : List PlanRange) → has (ranges_of id (r ∷ rs)) k ≡ (((r.part == id) && span_has r.span k) || has (ranges_of id rs) k)
has_more id k r rs = by (r.part == id) refl
  where
    by : (b : Bool) → (r.part == id) ≡ b → has (map (λ (r : PlanRange). r.span) (cond b (r ∷ filter (λ (r : PlanRange). r.part == id) rs) (filter (λ (r : PlanRange). r.part == id) rs))) k ≡ ((b && span_has r.span k) || has (ranges_of id rs) k)
    by true e = refl
    by false e = refl

-- a partition that the plan does not name has none
pub none_owned : (id k : ℕ) (rs : List PlanRange) → names rs id ≡ false → has (ranges_of id rs) k ≡ false
none_owned id k [] e = refl
none_owned id k (r ∷ rs) e = has_more id k r rs ∙ by (r.part == id) (names rs id) e (none_owned id k rs)
  where
    by : (b c : Bool) → (b || c) ≡ false → (c ≡ false → has (ranges_of id rs) k ≡ false) → ((b && span_has r.span k) || has (ranges_of id rs) k) ≡ false
    by true c e rest = absurd (let bad : ⊥ = cc in bad)
    by false c e rest = rest e

none_below : (id from to k : ℕ) (rs : List PlanRange) → IsTiling from to rs → k < from → has (ranges_of id rs) k ≡ false
none_below id from to k [] t lt = refl
none_below id from to k (r ∷ rs) t lt =
    let lo : r.span.lo ≡ from = t.0 in
    let full : r.span.lo < r.span.hi = t.1 in
    has_more id k r rs
    ∙ ap (λ b. ((r.part == id) && b) || has (ranges_of id rs) k) (outside_below r.span k (omega (arith, lo, lt)))
    ∙ ap (λ b. ((r.part == id) && false) || b) (none_below id r.span.hi to k rs t.2 (omega (arith, lo, full, lt)))
    ∙ nothing (r.part == id)
  where
    nothing : (b : Bool) → ((b && false) || false) ≡ false
    nothing true = refl
    nothing false = refl

owned_from : (id from k : ℕ) (rs : List PlanRange) → IsTiling from top rs → from ≤ k → has (ranges_of id rs) k ≡ (nat_lt k top && (owner_of rs k == id))
owned_from id from k [] t le =
    let end : from ≡ top = t in
    let high : nat_lt k top ≡ false = grind (arith, nat_tests) in
    sym (ap (λ b. b && (owner_of [] k == id)) high)
owned_from id from k (r ∷ rs) t le = elim (cases_lt k r.span.hi) [
  | inl lt ↦
      let lo : r.span.lo ≡ from = t.0 in
      let end : r.span.hi ≤ top = tiling_ends r.span.hi top rs t.2 in
      let low : nat_lt k top ≡ true = grind (arith, nat_tests) in
      has_more id k r rs
      ∙ ap (λ b. ((r.part == id) && b) || has (ranges_of id rs) k) (inside r.span k (omega (arith, lo, le)) lt)
      ∙ ap (λ b. ((r.part == id) && true) || b) (none_below id r.span.hi top k rs t.2 lt)
      ∙ all (r.part == id)
      ∙ ap (λ o. o == id) (sym (owner_first k r rs (omega (arith, lo, le)) lt))
      ∙ ap (λ b. b && (owner_of (r ∷ rs) k == id)) (sym low)
  | inr high ↦
      has_more id k r rs
      ∙ ap (λ b. ((r.part == id) && b) || has (ranges_of id rs) k) (outside_above r.span k high)
      ∙ rest (r.part == id) (has (ranges_of id rs) k)
      ∙ owned_from id r.span.hi k rs t.2 high
      ∙ ap (λ o. nat_lt k top && (o == id)) (sym (owner_later k r rs high))
]
  where
    all : (b : Bool) → ((b && true) || false) ≡ b
    all true = refl
    all false = refl

    rest : (b c : Bool) → ((b && false) || c) ≡ c
    rest true c = refl
    rest false c = refl

-- a partition has the keys whose owner it is
pub owned : (id k : ℕ) (rs : List PlanRange) → IsTiling 0 top rs → has (ranges_of id rs) k ≡ (nat_lt k top && (owner_of rs k == id))
owned id k rs t = owned_from id 0 k rs t (omega arith)
