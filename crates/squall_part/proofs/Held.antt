-- The keys that a plan gives a partition.
use Rattle.std.proofs.Common.{◌≡◌, ℕ, ◌<◌, ◌==◌, Bool, true, false, cond, List, [], ◌∷◌, map, filter, refl, sym, ap, subst, ◌∙◌, arith}
use Rattle.squall_key.specs.Keys.{top}
use Rattle.squall_span.specs.Spans.{Interval, has, Beyond, IsCanonical, EndsBy, IsSet}
use Rattle.squall_span.specs.SpanLaws.{same_lists}
use Rattle.squall_plan.specs.declared.range.PlanRange.{PlanRange}
use Rattle.squall_plan.specs.Ranges.{IsTiling, DifferFrom, Differ, AreRanges}
use Rattle.squall_plan.specs.Ranges.{IsCanonical as IsPlan}
use Rattle.squall_part.specs.Parts.{ranges_of}
use Rattle.squall_part.proofs.Logs.{eq_same, eq_differ}

-- with a test's answer
listed : (id : ℕ) (r : PlanRange) (rs : List PlanRange) (b : Bool) → (r.part == id) ≡ b → ranges_of id (r ∷ rs) ≡ cond b (r.span ∷ ranges_of id rs) (ranges_of id rs)
listed id r rs true e = ap (λ b. map (λ r. r.span) (cond b (r ∷ filter (λ r. r.part == id) rs) (filter (λ r. r.part == id) rs))) e
listed id r rs false e = ap (λ b. map (λ r. r.span) (cond b (r ∷ filter (λ r. r.part == id) rs) (filter (λ r. r.part == id) rs))) e

starts : (id h from : ℕ) (rs : List PlanRange) → h < from → IsTiling from top rs → Beyond h (ranges_of id rs)
starts id h from [] lt t = tt
starts id h from (r ∷ rs) lt t = by (r.part == id) (starts id h r.span.hi rs (omega (arith, t.0, t.1)) t.2) refl
  where
    by : (b : Bool) → Beyond h (ranges_of id rs) → (r.part == id) ≡ b → Beyond h (ranges_of id (r ∷ rs))
    by true rest e = subst (Beyond h) (sym (listed id r rs true e)) (omega (arith, t.0))
    by false rest e = subst (Beyond h) (sym (listed id r rs false e)) rest

after : (id : ℕ) (r : PlanRange) (rs : List PlanRange) → r.part ≡ id → DifferFrom r rs → IsTiling r.span.hi top rs → Beyond r.span.hi (ranges_of id rs)
after id r [] is d t = tt
after id r (s ∷ ss) is d t =
    subst (Beyond r.span.hi) (sym (listed id s ss false (eq_differ s.part id (λ e. d.0 (is ∙ sym e))))) (starts id r.span.hi s.span.hi ss (omega (arith, t.0, t.1)) t.2)

rest_differ : (r : PlanRange) (rs : List PlanRange) → DifferFrom r rs → Differ rs
rest_differ r [] d = tt
rest_differ r (s ∷ ss) d = d.1

canonical : (id from : ℕ) (rs : List PlanRange) → IsTiling from top rs → Differ rs → IsCanonical (ranges_of id rs)
canonical id from [] t d = tt
canonical id from (r ∷ rs) t d = by (r.part == id) (canonical id r.span.hi rs t.2 (rest_differ r rs d)) refl
  where
    by : (b : Bool) → IsCanonical (ranges_of id rs) → (r.part == id) ≡ b → IsCanonical (ranges_of id (r ∷ rs))
    by true rest e = subst IsCanonical (sym (listed id r rs true e)) (t.1, after id r rs (eq_same r.part id e) d t.2, rest)
    by false rest e = subst IsCanonical (sym (listed id r rs false e)) rest

ends : (id : ℕ) (rs : List PlanRange) → AreRanges rs → EndsBy top (ranges_of id rs)
ends id [] a = tt
ends id (r ∷ rs) a = by (r.part == id) (ends id rs a.1) refl
  where
    by : (b : Bool) → EndsBy top (ranges_of id rs) → (r.part == id) ≡ b → EndsBy top (ranges_of id (r ∷ rs))
    by true rest e = subst (EndsBy top) (sym (listed id r rs true e)) (a.0.1, rest)
    by false rest e = subst (EndsBy top) (sym (listed id r rs false e)) rest

-- they are a set
pub ranges_set : (id : ℕ) (rs : List PlanRange) → IsPlan rs → AreRanges rs → IsSet (ranges_of id rs)
ranges_set id rs plan a = (canonical id 0 rs plan.tiles plan.differ, ends id rs a)

pub all_taken : (id : ℕ) (rs : List PlanRange) (held : List Interval) → IsPlan rs → AreRanges rs → IsSet held → ((k : ℕ) → has held k ≡ has (ranges_of id rs) k) → held ≡ ranges_of id rs
all_taken id rs held plan a is keys = same_lists held (ranges_of id rs) is.0 (canonical id 0 rs plan.tiles plan.differ) keys
