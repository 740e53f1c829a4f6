-- A partition that is asked for a key has a reply.
use Rattle.std.proofs.Common.{◌≡◌, ℕ, ◌≤◌, Bool, true, false, refl, subst, inl, inr, arith}
use Rattle.std.proofs.lemmas.Bool.{cases_Bool, cases_lt, cases_eq, both_ways}
use Rattle.squall_plan.specs.Ranges.{owner_of}
use Rattle.squall_course.specs.Change.{Change}
use Rattle.squall_course.specs.Subplans.{moves}
use Rattle.squall_errand.specs.declared.errand.Reply.{Reply}
use Rattle.squall_errand.specs.declared.errand.Reply.TheVariants.{Held, Moved, Pending, Behind, Elsewhere}
use Rattle.squall_protocol.specs.declared.event.Node.TheVariants.{Part}
use Rattle.squall_protocol.specs.declared.event.Event.TheVariants.{Serve}
use Rattle.squall_protocol.specs.declared.answer.Answer.TheVariants.{Served, Refused}
use Rattle.squall_protocol.specs.declared.answer.Refusal.TheVariants.{NoSuch}
use Rattle.squall_protocol.specs.Worlds.{WorldValue, is_part, course_at, first_course}
use Rattle.squall_protocol.specs.Knowledge.{PartQueries, part_in, known_by, Knows, GaveUnder, ComesUnder, IsLastGiven, IsLastComing, Serves}
use Rattle.squall_protocol.specs.Acts.{HasAnswer}
use Rattle.squall_protocol.proofs.Kept.{Hears, Kept}
use Rattle.squall_protocol.proofs.Known.{known_course, hears_course, newest_course}
use Rattle.squall_board.specs.CourseRouteLaws.{one_course}
use Rattle.squall_protocol.specs.WorldLaws.{same_as_itself}
use Rattle.squall_protocol.proofs.Search.{Decided, decided_test, decided_both, some_greatest}
use Rattle.squall_protocol.proofs.SomeCourse.{some_course}
use Rattle.squall_protocol.proofs.SomeLoad.{some_or_none, none_is_some}

-- ---- what holds of a number

-- the partition knows the course of the number, or not
knows_decided : (p : PartQueries) (n : ℕ) → Decided ((c : Change) × Knows p n c)
knows_decided p n = elim (some_or_none (known_by p.first p.told n)) [
  | inl c ↦ inl c
  | inr none ↦ inr (λ c. none_is_some (known_by p.first p.told n) c.0 none c.1)
]

gave_decided : (p : PartQueries) (k n : ℕ) → Decided (GaveUnder p k n)
gave_decided p k n = decided_both ((c : Change) × Knows p n c) (p.given n k ≡ true) (knows_decided p n) (decided_test (p.given n k))

-- the key comes in by the course, and is not loaded
abbrev ComesBy : PartQueries → ℕ → ℕ → Change → Type 0
ComesBy p k n c = (moves c.old c.new k ≡ true) × ((owner_of c.new k ≡ p.id) × (p.loaded n k ≡ false))

not_loaded : (b : Bool) → Decided (b ≡ false)
not_loaded b = elim (cases_Bool b) [ inl is ↦ inr (λ none. both_ways b none is) | inr none ↦ inl none ]

by_decided : (p : PartQueries) (k n : ℕ) (c : Change) → Decided (ComesBy p k n c)
by_decided p k n c =
    decided_both (moves c.old c.new k ≡ true) ((owner_of c.new k ≡ p.id) × (p.loaded n k ≡ false)) (decided_test (moves c.old c.new k))
    (decided_both (owner_of c.new k ≡ p.id) (p.loaded n k ≡ false) (cases_eq (owner_of c.new k) p.id) (not_loaded (p.loaded n k)))

-- by the newest course that the partition knows
comes_decided : (w : WorldValue) → Kept w → (p k n : ℕ) → Decided (ComesUnder (part_in w p) k n)
comes_decided w kept p k n =
    let c = some_course w (w.facts (Part p)) kept.first (kept.facts (Part p)) in
    elim (decided_both (c.course.number ≡ n) (ComesBy (part_in w p) k n c.course) (cases_eq c.course.number n) (by_decided (part_in w p) k n c.course)) [
      | inl comes ↦ inl (c.course, c.by, comes.0, comes.1.0, comes.1.1.0, comes.1.1.1)
      | inr stays ↦ inr (λ x. stays (subst (λ d. (d.number ≡ n) × ComesBy (part_in w p) k n d) (one_course (first_course w) (w.facts (Part p)) x.0 c.course x.1 c.by) (x.2, (x.3, (x.4, x.5)))))
    ]

-- ---- the reply

-- the last numbers under which a key was given and by which it comes in, and the newest course
record LastNumbers (p : PartQueries) (k : ℕ) : Type 0 where
  gave : ℕ
  comes : ℕ
  is_gave : IsLastGiven p k gave
  is_comes : IsLastComing p k comes

last_numbers : (w : WorldValue) → Kept w → (p k : ℕ) → LastNumbers (part_in w p) k
last_numbers w kept p k =
    let g = some_greatest (GaveUnder (part_in w p) k) (gave_decided (part_in w p) k) w.last (λ n x. begun n x.0.0 x.0.1) in
    let c = some_greatest (ComesUnder (part_in w p) k) (comes_decided w kept p k) w.last (λ n x. newest_begun n x) in
    record { gave = g.0; comes = c.0; is_gave = g.1; is_comes = c.1 }
  where
    begun : (n : ℕ) (c : Change) → Knows (part_in w p) n c → n ≤ w.last
    begun n c knows = (known_course w (w.facts (Part p)) n c kept.first (kept.facts (Part p)) knows).begun.1

    newest_begun : (n : ℕ) → ComesUnder (part_in w p) k n → n ≤ w.last
    newest_begun n x = subst (λ m. m ≤ w.last) x.2 (newest_course w (w.facts (Part p)) x.0 kept.first (kept.facts (Part p)) x.1).begun.1

-- the partition knows the course by which a key comes in
comes_known : (w : WorldValue) → Kept w → (p k n : ℕ) → ComesUnder (part_in w p) k n → Knows (part_in w p) n (course_at w n)
comes_known w kept p k n x =
    let known = newest_course w (w.facts (Part p)) x.0 kept.first (kept.facts (Part p)) x.1 in
    hears_course w (w.facts (Part p)) n (kept.facts (Part p)) (subst (λ m. Hears (w.facts (Part p)) m) x.2 known.newest.0)

-- a key that is not held
away_reply : (w : WorldValue) → Kept w → (p k after : ℕ) → w.held p k ≡ false → (r : Reply) × Serves (part_in w p) k after r
away_reply w kept p k after away =
    let l = last_numbers w kept p k in
    elim (cases_lt l.gave l.comes) [
      | inl awaited ↦ elim l.is_comes.reached [
        | inl none ↦ let bad : ⊥ = omega arith in absurd bad
        | inr x ↦ (Pending (owner_of (w.old l.comes) k), (away, (l.gave, l.comes, l.is_gave, l.is_comes, awaited, (course_at w l.comes, comes_known w kept p k l.comes x, refl))))
      ]
      | inr le ↦ elim (cases_lt after l.gave) [
        | inl later ↦ elim l.is_gave.reached [
          | inl none ↦ let bad : ⊥ = omega arith in absurd bad
          | inr x ↦ (Moved (owner_of x.0.0.new k) l.gave, (away, l.is_gave, (l.comes, l.is_comes, le), later, (x.0.0, x.0.1, refl)))
        ]
        | inr followed ↦
            let n = some_course w (w.facts (Part p)) kept.first (kept.facts (Part p)) in
            elim (cases_lt n.course.number after) [
              | inl behind ↦ (Behind, (away, (l.gave, l.comes, l.is_gave, l.is_comes, le, followed), (n.course, n.by, behind)))
              | inr heard ↦ (Elsewhere (owner_of n.course.old k), (away, (l.gave, l.comes, l.is_gave, l.is_comes, le, followed), (n.course, n.by, heard, refl)))
            ]
      ]
    ]

some_reply : (w : WorldValue) → Kept w → (p k after : ℕ) → (r : Reply) × Serves (part_in w p) k after r
some_reply w kept p k after = elim (cases_Bool (w.held p k)) [
  | inl held ↦ (Held, held)
  | inr away ↦ away_reply w kept p k after away
]

-- a partition is asked for a key
pub some_serving : (w : WorldValue) → Kept w → (p k after : ℕ) → HasAnswer w (Serve p k after)
some_serving w kept p k after = elim (cases_Bool (is_part w p)) [
  | inr none ↦ (Refused NoSuch, w, (none, same_as_itself w))
  | inl there ↦ let r = some_reply w kept p k after in (Served r.0, w, (there, r.1, same_as_itself w))
]
