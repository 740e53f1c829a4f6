-- The leader has an answer.
use Rattle.std.proofs.Common.{◌≡◌, ◌⊎◌, ℕ, ◌≢◌, ◌+◌, ◌<◌, ◌≤◌, Bool, true, false, List, refl, sym, subst, inl, inr, arith, le_refl}
use Rattle.std.proofs.lemmas.Bool.{cases_Bool, cases_lt, cases_eq, both_ways}
use Rattle.squall_key.specs.Keys.{top, part_limit}
use Rattle.squall_plan.specs.declared.range.PlanRange.{PlanRange}
use Rattle.squall_plan.specs.Ranges.{owner_of}
use Rattle.squall_plan.proofs.Named.{named_low}
use Rattle.squall_course.specs.Moves.{is_incoming}
use Rattle.squall_report.specs.Cells.{place_at}
use Rattle.squall_protocol.specs.Known.{last_number}
use Rattle.squall_protocol.specs.declared.event.Node.TheVariants.{Leader}
use Rattle.squall_protocol.specs.declared.event.Event.TheVariants.{OpenNext, Begin, BeginFrom}
use Rattle.squall_protocol.specs.declared.answer.Answer.TheVariants.{Opened, Begun, Refused}
use Rattle.squall_protocol.specs.declared.answer.Refusal.TheVariants.{NotDone, NoMore, Running, NoNumber}
use Rattle.squall_protocol.specs.Worlds.{WorldValue, last_course}
use Rattle.squall_protocol.specs.Steps.{IsWanting, NoneWanting, IsOver, IsPlan, LeavesAt, last_count, after_open, after_begin}
use Rattle.squall_protocol.specs.Acts.{HasAnswer}
use Rattle.squall_protocol.proofs.Courses.{is_incoming_so, moving_key, named_owner}
use Rattle.squall_protocol.proofs.Kept.{Kept}
use Rattle.squall_protocol.specs.WorldLaws.{same_as_itself}
use Rattle.squall_protocol.proofs.Search.{Decided, decided_test, decided_both, decided_if, all_below, least_below, least_true}
use Rattle.squall_protocol.proofs.SomeCourse.{zero_or_more}

-- a key that comes in by plans lies below the top, and its new partition below the limit
pub incoming_key : (old new : List PlanRange) (s q k : ℕ) → IsPlan old → IsPlan new → is_incoming old new s q k ≡ true → k < top
incoming_key old new s q k a b is = moving_key old new k a b (is_incoming_so old new s q k is).0

incoming_part : (old new : List PlanRange) (s q k : ℕ) → IsPlan old → IsPlan new → is_incoming old new s q k ≡ true → q < part_limit
incoming_part old new s q k a b is =
    subst (λ p. p < part_limit) (is_incoming_so old new s q k is).2 (named_low new (owner_of new k) b.ranges (named_owner new k b (incoming_key old new s q k a b is)))

-- both plans of the course begun last
last_plans : (w : WorldValue) → Kept w → IsPlan (last_course w).old × IsPlan (last_course w).new
last_plans w kept = (kept.olds w.last (le_refl w.last), kept.news w.last (le_refl w.last))

-- the leader waits for the partition, or not
wanting_decided : (w : WorldValue) → Kept w → (s q : ℕ) → w.opened w.last ≡ s + 1 → Decided (IsWanting w s q)
wanting_decided w kept s q last = elim (cases_Bool ((w.facts Leader).done (place_at w.last s q))) [
  | inl told ↦ inr (λ x. both_ways ((w.facts Leader).done (place_at w.last s q)) x.waiting told)
  | inr waiting ↦
      let plans = last_plans w kept in
      elim (least_true (is_incoming (last_course w).old (last_course w).new s q) top (λ k is. incoming_key (last_course w).old (last_course w).new s q k plans.0 plans.1 is)) [
        | inl f ↦ inl (record { last = sym last; due = (f.0, f.1); waiting = waiting })
        | inr none ↦ inr (λ x. both_ways (is_incoming (last_course w).old (last_course w).new s q x.due.0) (none x.due.0) x.due.1)
      ]
]

-- the least partition for which it waits
record FirstWanting (w : WorldValue) : Type 0 where
  sub : ℕ
  part : ℕ
  wanting : IsWanting w sub part
  least : (p : ℕ) → p < part → IsWanting w sub p → ⊥

-- there is one, or it waits for none
waits : (w : WorldValue) → Kept w → FirstWanting w ⊎ NoneWanting w
waits w kept = elim (zero_or_more (w.opened w.last)) [
  | inl none ↦ inr (λ s q x. let last : s + 1 ≡ w.opened w.last = x.last in omega arith)
  | inr opened ↦ elim (least_below (IsWanting w opened.0) (λ q. wanting_decided w kept opened.0 q opened.1) part_limit) [
    | inl f ↦ inl (record { sub = opened.0; part = f.at; wanting = f.holds; least = f.least })
    | inr none ↦ inr (λ s q x. none q (low s q x) (subst (λ t. IsWanting w t q) (one_last s opened.0 q x opened.1) x))
  ]
]
  where
    low : (s q : ℕ) → IsWanting w s q → q < part_limit
    low s q x = let plans = last_plans w kept in incoming_part (last_course w).old (last_course w).new s q x.due.0 plans.0 plans.1 x.due.1

    one_last : (s t q : ℕ) → IsWanting w s q → w.opened w.last ≡ t + 1 → s ≡ t
    one_last s t q x e = let last : s + 1 ≡ w.opened w.last = x.last in omega arith

-- to open the next sub-plan
pub some_open : (w : WorldValue) → Kept w → HasAnswer w OpenNext
some_open w kept = elim (waits w kept) [
  | inl f ↦ (Refused (NotDone f.sub f.part), w, (f.wanting, f.least, same_as_itself w))
  | inr none ↦ elim (cases_eq (w.opened w.last) (last_count w)) [
    | inl all ↦ (Refused NoMore, w, ((all, none), same_as_itself w))
    | inr more ↦ (Opened (w.opened w.last), after_open w, (refl, none, more, same_as_itself (after_open w)))
  ]
]

-- the course begun last is over, or not
over_decided : (w : WorldValue) → Kept w → Decided (IsOver w)
over_decided w kept = elim (waits w kept) [
  | inl f ↦ inr (λ over. over.1 f.sub f.part f.wanting)
  | inr none ↦ elim (cases_eq (w.opened w.last) (last_count w)) [ inl all ↦ inl (all, none) | inr more ↦ inr (λ over. more over.0) ]
]

-- to begin a course
pub some_begin : (w : WorldValue) → Kept w → (plan : List PlanRange) → IsPlan plan → HasAnswer w (Begin plan)
some_begin w kept plan is = elim (over_decided w kept) [
  | inr running ↦ (Refused Running, w, (running, same_as_itself w))
  | inl over ↦ elim (cases_lt w.last last_number) [
    | inl more ↦ (Begun (w.last + 1) _, after_begin w (w.new w.last) plan, (over, more, is, refl, refl, same_as_itself (after_begin w (w.new w.last) plan)))
    | inr ge ↦ let le : w.last ≤ last_number = kept.numbers in let last : w.last ≡ last_number = omega arith in (Refused NoNumber, w, (over, last, same_as_itself w))
  ]
]

-- ---- a course that begins from where the keys are

decided_not : (b : Bool) → Decided (b ≡ false)
decided_not b = elim (cases_Bool b) [ inl is ↦ inr (λ none. both_ways b none is) | inr none ↦ inl none ]

-- it holds of one of both, or of neither
decided_either : (P Q : Type 0) → Decided P → Decided Q → Decided (P ⊎ Q)
decided_either P Q (inl p) q = inl (inl p)
decided_either P Q (inr never) (inl q) = inl (inr q)
decided_either P Q (inr a) (inr b) = inr (λ h. elim h [ inl p ↦ a p | inr q ↦ b q ])

apart_decided : (a b : ℕ) → Decided (a ≢ b)
apart_decided a b = decided_if (a ≡ b) ⊥ (cases_eq a b) (inr (λ x. x))

-- the course begun last leaves the key at the partition, or not
leaves_decided : (w : WorldValue) (k p : ℕ) → Decided (LeavesAt w w.last k p)
leaves_decided w k p =
    let old = owner_of (w.old w.last) k in
    let new = owner_of (w.new w.last) k in
    decided_either _ _
    (decided_both (p ≡ new) (old ≢ new → w.loaded w.last p k ≡ true) (cases_eq p new) (decided_if (old ≢ new) (w.loaded w.last p k ≡ true) (apart_decided old new) (decided_test (w.loaded w.last p k))))
    (still_decided old new)
  where
    still_decided : (old new : ℕ) → Decided ((p ≡ old) × (old ≢ new) × (w.given w.last p k ≡ false) × (w.closed w.last p ≡ true))
    still_decided old new = elim (decided_both ((p ≡ old) × (old ≢ new)) ((w.given w.last p k ≡ false) × (w.closed w.last p ≡ true)) (decided_both (p ≡ old) (old ≢ new) (cases_eq p old) (apart_decided old new))
        (decided_both (w.given w.last p k ≡ false) (w.closed w.last p ≡ true) (decided_not (w.given w.last p k)) (decided_test (w.closed w.last p)))) [
          | inl all ↦ inl (all.0.0, all.0.1, all.1.0, all.1.1)
          | inr never ↦ inr (λ x. never ((x.0, x.1), (x.2, x.3)))
        ]

-- to begin a course from a plan
pub some_begin_from : (w : WorldValue) → Kept w → (old new : List PlanRange) → IsPlan old → IsPlan new → HasAnswer w (BeginFrom old new)
some_begin_from w kept old new is_old is_new = elim (all_below (λ k. LeavesAt w w.last k (owner_of old k)) (λ k. leaves_decided w k (owner_of old k)) top) [
  | inr elsewhere ↦ (Refused Running, w, (elsewhere, same_as_itself w))
  | inl left ↦ elim (cases_lt w.last last_number) [
    | inl more ↦ (Begun (w.last + 1) _, after_begin w old new, (left, more, is_old, is_new, refl, refl, same_as_itself (after_begin w old new)))
    | inr ge ↦ let le : w.last ≤ last_number = kept.numbers in let last : w.last ≡ last_number = omega arith in (Refused NoNumber, w, (left, last, same_as_itself w))
  ]
]
