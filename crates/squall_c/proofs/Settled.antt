-- A settled key stays while its course is the newest.
use Rattle.std.specs.Prelude.{◌≡◌, ℕ, ◌<◌, ◌≤◌, not, ◌||◌, Bool, true, false, List, if◌then◌else◌, refl}
use Rattle.std.proofs.Common.{sym, ap, ◌∙◌, arith, inl, inr}
use Rattle.std.proofs.lemmas.Bool.{cases_lt}
use Rattle.squall_key.specs.Keys.{top}
use Rattle.squall_plan.specs.declared.range.PlanRange.{PlanRange}
use Rattle.squall_plan.specs.Ranges.{owner_of}
use Rattle.squall_course.specs.Change.{Change}
use Rattle.squall_course.specs.Subplans.{moves, subplan_of}
use Rattle.squall_report.specs.Facts.{Fact, LoadedKey, DonePart}
use Rattle.squall_board.specs.Route.{has_come, route, place_of_key}
use Rattle.squall_router.specs.Routers.{RouterValue, course_of_router, route_of_router, IsTableOf}
use Rattle.squall_c_values.specs.declared.places.CPlace.{CPlace}
use Rattle.squall_c_values.specs.Values.{place_at, sub_or_none}
use Rattle.squall_c.proofs.CutLegs.{is_below, is_not_below}

either_more : (a b c d : Bool) → (a ≡ true → c ≡ true) → (b ≡ true → d ≡ true) → (a || b) ≡ true → (c || d) ≡ true
either_more true b c d f g e = ap (λ x. x || d) (f refl)
either_more false b true d f g e = refl
either_more false b false d f g e = g e

-- what has come by a board has come by one that tells more
come_more : (c : Change) (less more : Fact → Bool) (k : ℕ) → ((f : Fact) → less f ≡ true → more f ≡ true) → has_come c less k ≡ true → has_come c more k ≡ true
come_more c less more k all = either_more _ _ _ _ (all (LoadedKey (place_of_key c k) k)) (all (DonePart (place_of_key c k)))

-- by the one test or the other the key is at its new partition, and by the second it stays there
stays_new : (m : Bool) (h g : Bool) (old new : ℕ) → (h ≡ true → g ≡ true) → (if m || h then new else old) ≡ new → (if m || g then new else old) ≡ (if m || h then new else old)
stays_new true h g old new more e = refl
stays_new false true g old new more e = ap (λ b. if b then new else old) (more refl)
stays_new false false true old new more e = sym e
stays_new false false false old new more e = refl

pub stays : (c : Change) (less more : Fact → Bool) (k : ℕ) → ((f : Fact) → less f ≡ true → more f ≡ true) → route c less k ≡ owner_of c.new k → route c more k ≡ route c less k
stays c less more k all e = stays_new (not (moves c.old c.new k)) (has_come c less k) (has_come c more k) (owner_of c.old k) (owner_of c.new k) (come_more c less more k all) e

abbrev part_of : Change → ℕ → ℕ → CPlace
part_of c k part = record { part = part; source = owner_of c.old k; dest = owner_of c.new k; sub = sub_or_none (subplan_of c.old c.new k) }

-- by the table of a router a key stands where the router says
pub same_place : (r : RouterValue) (table : List PlanRange) (c : Change) (k : ℕ) → IsTableOf r table → c ≡ course_of_router r → place_at c (owner_of table) k ≡ place_at (course_of_router r) (route_of_router r) k
same_place r table c k is same = ap (λ (d : Change). place_at d (owner_of table) k) same ∙ elim (cases_lt k top) [
  | inl lt ↦ rw (is_below k top lt) (ap (part_of (course_of_router r) k) (is.routes k (omega arith) lt))
  | inr ge ↦ rw (is_not_below k top ge) refl
]
