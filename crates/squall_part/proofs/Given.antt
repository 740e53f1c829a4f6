-- What is left to be given, and what is given.
use Rattle.std.proofs.Common.{◌≡◌, ℕ, zero, suc, ◌+◌, ◌<◌, ◌==◌, Bool, true, false, cond, min, List, [], ◌∷◌, length, get_or, Option, None, Some, refl, sym, ap, subst, ◌∙◌, arith}
use Rattle.std.specs.List.{AllByRecursion}
use Rattle.std.proofs.lemmas.Bool.{and_parts, and_from}
use Rattle.std.proofs.lemmas.Bool.Decides.{nat_tests}
use Rattle.std.proofs.lemmas.Option.{same_Some}
use Rattle.squall_key.specs.Keys.{top}
use Rattle.squall_span.specs.Spans.{Interval, interval, has, IsSet, first_keys}
use Rattle.squall_span.specs.SpanLaws.{has_first}
use Rattle.squall_plan.specs.Ranges.{owner_of}
use Rattle.squall_course.specs.Change.{Change, ArePlans}
use Rattle.squall_course.specs.Subplans.{moves, sub_of, subplan_of, dest_of}
use Rattle.squall_course.proofs.Counted.{key_goes}
use Rattle.squall_board.specs.BoardLaws.{key_below}
use Rattle.squall_part.specs.Parts.{PartValue, Log, IsPart, IsLog, course_of_part, given_in, loaded_in, closed_in, given_by, loaded_by, closed_by}
use Rattle.squall_part.specs.Logs.{IsLogAt}
use Rattle.squall_part.specs.Giving.{is_left, goes_out}
use Rattle.squall_part.proofs.Logs.{eq_refl, eq_same}
use Rattle.squall_part.proofs.Known.{course_known, log_at}

pub log_is : (logs : List Log) (at : ℕ) (d : Log) → AllByRecursion IsLog logs → at < length logs → IsLog (get_or logs at d)
log_is [] at d all lt = absurd (omega arith)
log_is (l ∷ ls) zero d all lt = all.0
log_is (l ∷ ls) (suc at) d all lt = log_is ls at d all.1 (omega arith)

pub plans_at : (p : PartValue) (c : Change) (at : ℕ) (d : Log) → IsPart p → IsLogAt p.logs c at → ArePlans c.old c.new
plans_at p c at d is place = subst (λ c. ArePlans c.old c.new) (place.course d) (log_is p.logs at d is.logs place.within).plans

-- the key lies below the top
below_top : (ss : List Interval) (k : ℕ) → IsSet ss → has ss k ≡ true → k < top
below_top ss k is h = let t = key_below ss k is h in grind (arith, nat_tests)

-- a partition without a destination in the sub-plan has nothing left in it
pub none_left : (p : PartValue) (sub : ℕ) (o : Option ℕ) → IsPart p → ArePlans (course_of_part p).old (course_of_part p).new → o ≡ dest_of (course_of_part p).old (course_of_part p).new sub p.id → o ≡ None
    → (k : ℕ) → is_left p sub k ≡ false
none_left p sub o is plans e none k = by (is_left p sub k) refl
  where
    by : (b : Bool) → is_left p sub k ≡ b → b ≡ false
    by false t = refl
    by true t =
        let a = and_parts (goes_out p sub k) (has p.held k) t in
        let m = and_parts (moves (course_of_part p).old (course_of_part p).new k) _ a.0 in
        let n = and_parts (sub_of (course_of_part p).old (course_of_part p).new k == sub) (owner_of (course_of_part p).old k == p.id) m.1 in
        let there = key_goes (course_of_part p).old (course_of_part p).new k plans (below_top p.held k is.held a.1) m.0 in
        let s = eq_same _ _ n.0 in
        let q = eq_same _ _ n.1 in
        let found : dest_of (course_of_part p).old (course_of_part p).new sub p.id ≡ Some (owner_of (course_of_part p).new k) = (λ i. dest_of (course_of_part p).old (course_of_part p).new (sym s i) (sym q i)) ∙ there in
        let bad : None ≡ Some (owner_of (course_of_part p).new k) = sym none ∙ e ∙ found in
        absurd (let no : ⊥ = cc in no)

-- no first keys of a set that has some: none were asked for
pub zero_max : (most : ℕ) (left : List Interval) (test : ℕ → Bool) → IsSet left → ((k : ℕ) → has left k ≡ test k) → None ≡ first_keys most left → (left ≡ [] → ⊥) → ((k : ℕ) × (test k ≡ true)) × (most ≡ 0)
zero_max most [] test is keys none some = absurd (some refl)
zero_max most (s ∷ ss) test is keys none some = ((s.lo, sym (keys s.lo) ∙ has_first s ss is.0.0), by (most == 0) refl none)
  where
    by : (b : Bool) → (most == 0) ≡ b → None ≡ cond b None (Some (interval s.lo (min s.hi (s.lo + most)))) → most ≡ 0
    by true e n = eq_same most 0 e
    by false e n = absurd (let bad : ⊥ = cc in bad)

-- ---- one key

pub sub_some : (c : Change) (k sub : ℕ) → subplan_of c.old c.new k ≡ Some sub → (moves c.old c.new k ≡ true) × (sub_of c.old c.new k ≡ sub)
sub_some c k sub e = by (moves c.old c.new k) e
  where
    by : (b : Bool) → cond b (Some (sub_of c.old c.new k)) None ≡ Some sub → (b ≡ true) × (sub_of c.old c.new k ≡ sub)
    by true e = (refl, same_Some _ _ e)
    by false e = absurd (let bad : ⊥ = cc in bad)

pub goes : (p : PartValue) (k sub : ℕ) → subplan_of (course_of_part p).old (course_of_part p).new k ≡ Some sub → owner_of (course_of_part p).old k ≡ p.id → goes_out p sub k ≡ true
goes p k sub e o =
    let s = sub_some (course_of_part p) k sub e in
    and_from (moves (course_of_part p).old (course_of_part p).new k) _ s.0 (and_from (sub_of (course_of_part p).old (course_of_part p).new k == sub) _ (ap (λ n. n == sub) s.1 ∙ eq_refl sub) (ap (λ n. n == p.id) o ∙ eq_refl p.id))

pub goes_there : (p : PartValue) (k sub : ℕ) → ArePlans (course_of_part p).old (course_of_part p).new → k < top → subplan_of (course_of_part p).old (course_of_part p).new k ≡ Some sub → owner_of (course_of_part p).old k ≡ p.id
    → dest_of (course_of_part p).old (course_of_part p).new sub p.id ≡ Some (owner_of (course_of_part p).new k)
goes_there p k sub plans lt e o =
    let s = sub_some (course_of_part p) k sub e in
    (λ i. dest_of (course_of_part p).old (course_of_part p).new (sym s.1 i) (sym o i)) ∙ key_goes (course_of_part p).old (course_of_part p).new k plans lt s.0

-- what the log of the newest course says was given
pub given_here : (p : PartValue) (at : ℕ) (d : Log) → IsPart p → IsLogAt p.logs (course_of_part p) at → given_by p (course_of_part p).number ≡ (get_or p.logs at d).given
given_here p at d is place = ap given_in (log_at p (course_of_part p).number (course_of_part p) at d is (course_known p is) place)

pub loaded_here : (p : PartValue) (at : ℕ) (d : Log) → IsPart p → IsLogAt p.logs (course_of_part p) at → loaded_by p (course_of_part p).number ≡ (get_or p.logs at d).loaded
loaded_here p at d is place = ap loaded_in (log_at p (course_of_part p).number (course_of_part p) at d is (course_known p is) place)

pub closed_here : (p : PartValue) (at : ℕ) (d : Log) → IsPart p → IsLogAt p.logs (course_of_part p) at → closed_by p (course_of_part p).number ≡ (get_or p.logs at d).closed
closed_here p at d is place = ap closed_in (log_at p (course_of_part p).number (course_of_part p) at d is (course_known p is) place)
