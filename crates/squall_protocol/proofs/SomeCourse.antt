-- By what is told truly in a world there is a newest course, and so a route.
use Rattle.std.proofs.Common.{◌≡◌, ◌⊎◌, ℕ, zero, suc, ◌+◌, ◌<◌, ◌≤◌, refl, sym, subst, inl, inr, arith}
use Rattle.std.specs.Prelude.{Some, None, Option}
use Rattle.std.proofs.lemmas.Bool.{cases_lt}
use Rattle.squall_join.specs.declared.flat.Flat.{Flat}
use Rattle.squall_join.specs.declared.flat.Flat.TheVariants.{Unknown, One, Clash}
use Rattle.squall_course.specs.Change.{Change}
use Rattle.squall_report.specs.Issues.{PlanPair}
use Rattle.squall_report.specs.Newest.{IsNewest}
use Rattle.squall_report.specs.Queries.{Queries}
use Rattle.squall_board.specs.CourseRoute.{IsCourseBy, course_by}
use Rattle.squall_protocol.specs.Firsts.{IsGreatest}
use Rattle.squall_protocol.specs.Worlds.{WorldValue, first_course}
use Rattle.squall_protocol.specs.Steps.{IsPlan}
use Rattle.squall_protocol.proofs.Kept.{Kept, TrueFacts}
use Rattle.squall_protocol.proofs.Known.{hears_begun, NewestCourse, newest_course}
use Rattle.squall_protocol.proofs.Search.{Decided, some_greatest}

-- a number is 0, or one more than another
pub zero_or_more : (n : ℕ) → (n ≡ 0) ⊎ ((s : ℕ) × (n ≡ s + 1))
zero_or_more zero = inl refl
zero_or_more (suc s) = inr (s, omega arith)

-- above the first number one pair of plans is issued under the number
abbrev IsLater : Queries → ℕ → Type 0
IsLater f n = (1 < n) × ((pair : PlanPair) × (f.issued n ≡ One pair))

one_issued : (x : Flat PlanPair) → Decided ((pair : PlanPair) × (x ≡ One pair))
one_issued Unknown = inr (λ h. let bad : Unknown ≡ One h.0 = h.1 in cc)
one_issued (One pair) = inl (pair, refl)
one_issued Clash = inr (λ h. let bad : Clash ≡ One h.0 = h.1 in cc)

later_decided : (f : Queries) (n : ℕ) → Decided (IsLater f n)
later_decided f n = elim (cases_lt 1 n) [
  | inl more ↦ elim (one_issued (f.issued n)) [ inl one ↦ inl (more, one) | inr none ↦ inr (λ h. none h.1) ]
  | inr le ↦ inr (λ h. let more : 1 < n = h.0 in omega arith)
]

-- the greatest such number, or none
newest_issue : (f : Queries) (g : ℕ) → IsGreatest (IsLater f) g → (newest : Option (ℕ × PlanPair)) × IsNewest f.issued 1 newest
newest_issue f g is = elim is.reached [
  | inl none ↦ (None, λ n above pair e. let le : n ≤ g = is.top n (above, (pair, e)) in omega arith)
  | inr at ↦ (Some (g, at.1.0), (at.0, at.1.1, λ n above pair e. beyond n above pair e at.0))
]
  where
    beyond : (n : ℕ) → g < n → (pair : PlanPair) → f.issued n ≡ One pair → 1 < g → ⊥
    beyond n above pair e more = let le : n ≤ g = is.top n (omega arith, (pair, e)) in omega arith

-- the newest course that a node knows, which was begun
pub record KnownNewest (w : WorldValue) (f : Queries) : Type 0 where
  pub course : Change
  pub by : IsCourseBy (first_course w) f course
  pub known : NewestCourse w f course

pub some_course : (w : WorldValue) (f : Queries) → 1 ≤ w.last → TrueFacts w f → KnownNewest w f
some_course w f first t =
    let g = some_greatest (IsLater f) (later_decided f) w.last (λ n h. (hears_begun w f n first t (inr h.1)).1) in
    let newest = newest_issue f g.0 g.1 in
    let by : IsCourseBy (first_course w) f (course_by (first_course w) newest.0) = (newest.0, newest.1, refl) in
    record { course = course_by (first_course w) newest.0; by = by; known = newest_course w f (course_by (first_course w) newest.0) first t by }

-- both its plans are plans
pub course_plans : (w : WorldValue) → Kept w → (f : Queries) (c : Change) → NewestCourse w f c → IsPlan c.old × IsPlan c.new
course_plans w kept f c known =
    let most : c.number ≤ w.last = known.begun.1 in
    subst (λ (d : Change). IsPlan d.old × IsPlan d.new) (sym known.same) (kept.olds c.number most, kept.news c.number most)
