-- A moving key shows that its owners share a key.
use Rattle.std.proofs.Common.{◌≡◌, ℕ, ◌<◌, ◌≤◌, Bool, true, false, eqb, List, [], ◌∷◌, Some, refl, sym, ap, ◌∙◌, arith, inl, inr}
use Rattle.std.specs.Prelude.{◌&&◌, ◌||◌}
use Rattle.std.specs.List.{list_any, find}
use Rattle.std.proofs.lemmas.Bool.{cases_Bool, cases_lt, ne_eqb, eqb-false}
use Rattle.std.proofs.lemmas.Bool.Decides.{nat_tests}
use Rattle.squall_key.specs.Keys.{top}
use Rattle.squall_span.specs.Spans.{Interval, span_has}
use Rattle.squall_plan.specs.declared.range.PlanRange.{PlanRange}
use Rattle.squall_plan.specs.Ranges.{owner_of, range_has, IsTiling}
use Rattle.squall_plan.specs.PlanLaws.{has_inside, has_above}
use Rattle.squall_course.specs.declared.link.Link.{Link}
use Rattle.squall_course.specs.Change.{Change, ArePlans}
use Rattle.squall_course.specs.Subplans.{shares, feeds, is_dest, subplan_of}
use Rattle.squall_course.specs.Links.{lower_links, IsTable}
use Rattle.squall_course.proofs.Rising.{eq_refl}
use Rattle.squall_course.proofs.Tabled.{sub_is_place}

or_true : (a : Bool) → (a || true) ≡ true
or_true true = refl
or_true false = refl

any_found : {X : Type 0} (p q : X → Bool) (xs : List X) (x : X) → find p xs ≡ Some x → q x ≡ true → list_any q xs ≡ true
any_found p q [] x e h = absurd cc
any_found {X} p q (y ∷ ys) x e h = elim (cases_Bool (p y)) [
  | inl is ↦ let e1 : Some y ≡ Some x = rw is at e in let same : y ≡ x = cc in rw (same, h) refl
  | inr is ↦ let e1 : find p ys ≡ Some x = rw is at e in rw (any_found p q ys x e1 h) (or_true (q y))
]

-- the range in which a tiling has a key
found : (from k : ℕ) (rs : List PlanRange) → IsTiling from top rs → from ≤ k → k < top → (r : PlanRange) × (find (range_has k) rs ≡ Some r) × (range_has k r ≡ true)
found from k [] t le below = absurd (omega (arith, t))
found from k (r ∷ rs) t le below = elim (cases_lt k r.span.hi) [
  | inl in_it ↦ let has : range_has k r ≡ true = has_inside k r (omega (arith, t.0)) in_it in (r, rw has refl, has)
  | inr past ↦ let rest = found r.span.hi k rs t.2 past below in (rest.0, rw (has_above k r past) rest.1, rest.2)
]

shared : (a b : Interval) (k : ℕ) → span_has a k ≡ true → span_has b k ≡ true → shares a b ≡ true
shared a b k h h2 = grind (arith, nat_tests)

owner_is : (rs : List PlanRange) (k : ℕ) (r : PlanRange) → find (range_has k) rs ≡ Some r → owner_of rs k ≡ r.part
owner_is rs k r e = rw e refl

pub feeds_key : (old new : List PlanRange) (k : ℕ) → IsTiling 0 top old → IsTiling 0 top new → k < top → feeds old new (owner_of old k) (owner_of new k) ≡ true
feeds_key old new k t u below =
    let a = found 0 k old t (omega arith) below in
    let b = found 0 k new u (omega arith) below in
    let inner = any_found (range_has k) (λ s. eqb s.part (owner_of new k) && shares a.0.span s.span) new b.0 b.1 (rw (owner_is new k b.0 b.1, eq_refl b.0.part, shared a.0.span b.0.span k a.2 b.2) refl) in
    any_found (range_has k) (λ r. eqb r.part (owner_of old k) && list_any (λ s. eqb s.part (owner_of new k) && shares r.span s.span) new) old a.0 a.1 (rw inner (rw (owner_is old k a.0 a.1, eq_refl a.0.part) refl))

pub moving_dest : (old new : List PlanRange) (k : ℕ) → IsTiling 0 top old → IsTiling 0 top new → k < top → eqb (owner_of old k) (owner_of new k) ≡ false → is_dest old new (owner_of old k) (owner_of new k) ≡ true
moving_dest old new k t u below apart =
    let differ : eqb (owner_of new k) (owner_of old k) ≡ false = ne_eqb _ _ (λ e. eqb-false _ _ apart (sym e)) in
    rw (differ, feeds_key old new k t u below) refl

-- the sub-plan of a key by the table, of plans and owners under other names
pub sub_known : (c : Change) (i j : List PlanRange) (fs : List Link) (k s d n : ℕ) → i ≡ c.old → j ≡ c.new → ArePlans i j → IsTable i j fs → k < top → s ≡ owner_of c.old k → d ≡ owner_of c.new k → eqb s d ≡ false → n ≡ lower_links s d fs
    → Some n ≡ subplan_of c.old c.new k
sub_known c i j fs k s d n a b plans t below e f apart is =
    let plans1 : ArePlans c.old c.new = rw (a, b) at plans in
    let t1 : IsTable c.old c.new fs = rw (a, b) at t in
    let apart1 : eqb (owner_of c.old k) (owner_of c.new k) ≡ false = rw (e, f) at apart in
    let is1 : n ≡ lower_links (owner_of c.old k) (owner_of c.new k) fs = rw (e, f) at is in
    let place = sub_is_place c.old c.new fs (owner_of c.old k) (owner_of c.new k) plans1.new_ranges t1 (moving_dest c.old c.new k plans1.old_canonical.tiles plans1.new_canonical.tiles below apart1) in
    rw apart1 (ap Some (is1 ∙ place))
