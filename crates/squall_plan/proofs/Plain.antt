-- The JSON of a plan has no float, and nests little.
use Rattle.std.proofs.Common.{◌≡◌, ℕ, List, [], ◌∷◌, ◌≤◌, Bool, true, false, ◌||◌, map, refl, arith}
use Rattle.std.specs.Prelude.{◌==◌, codes, max, if◌then◌else◌}
use Rattle.serde_json.specs.Data.{string, depth, items_depth}
use Rattle.serde_json.specs.View.{items_of}
use Rattle.serde_json.specs.Written.{has_float, items_have_float}
use Rattle.squall_key.specs.Keys.{top}
use Rattle.squall_plan.specs.declared.range.PlanRange.{PlanRange}
use Rattle.squall_plan.specs.PlanText.{json_of_bound, json_of_end, json_of_range, json_of_plan}

either_none : (a b : Bool) → a ≡ false → b ≡ false → (a || b) ≡ false
either_none false false e f = refl
either_none false true e f = f
either_none true b e f = e

end_plain : (is_top : Bool) (b : ℕ) → has_float (if is_top then string (codes "end") else json_of_bound b) ≡ false
end_plain true b = refl
end_plain false b = refl

range_plain : (r : PlanRange) → has_float (json_of_range r) ≡ false
range_plain r = either_none (has_float (json_of_end r.span.hi)) false (end_plain (r.span.hi == top) r.span.hi) refl

ranges_plain : (rs : List PlanRange) → items_have_float (items_of (map json_of_range rs)) ≡ false
ranges_plain [] = refl
ranges_plain (r ∷ rs) = either_none (has_float (json_of_range r)) (items_have_float (items_of (map json_of_range rs))) (range_plain r) (ranges_plain rs)

pub plan_plain : (rs : List PlanRange) → has_float (json_of_plan rs) ≡ false
plan_plain rs = either_none (items_have_float (items_of (map json_of_range rs))) false (ranges_plain rs) refl

-- ---- nesting

end_flat : (is_top : Bool) (b : ℕ) → depth (if is_top then string (codes "end") else json_of_bound b) ≤ 1
end_flat true b = omega arith
end_flat false b = omega arith

both_low : (a b n : ℕ) → a ≤ n → b ≤ n → max a b ≤ n
both_low a b n p q = omega (arith, p, q)

range_flat : (r : PlanRange) → depth (json_of_range r) ≤ 2
range_flat r = omega (arith, both_low (depth (json_of_end r.span.hi)) 0 1 (end_flat (r.span.hi == top) r.span.hi) (omega arith))

ranges_flat : (rs : List PlanRange) → items_depth (items_of (map json_of_range rs)) ≤ 2
ranges_flat [] = omega arith
ranges_flat (r ∷ rs) = both_low (depth (json_of_range r)) (items_depth (items_of (map json_of_range rs))) 2 (range_flat r) (ranges_flat rs)

pub plan_flat : (rs : List PlanRange) → depth (json_of_plan rs) ≤ 127
plan_flat rs = omega (arith, both_low (items_depth (items_of (map json_of_range rs))) 0 2 (ranges_flat rs) (omega arith))
