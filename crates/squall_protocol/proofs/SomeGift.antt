-- A partition that is to give keys has an answer.
use Rattle.std.proofs.Common.{◌≡◌, ◌≢◌, ◌⊎◌, ℕ, zero, suc, ◌+◌, ◌<◌, true, false, length, refl, sym, ◌∙◌, subst, inl, inr, arith, le_refl}
use Rattle.std.proofs.lemmas.Bool.{cases_Bool, and_parts}
use Rattle.squall_key.specs.Keys.{top}
use Rattle.squall_span.specs.Spans.{Interval, interval, span_has}
use Rattle.squall_span.specs.SpanLaws.{inside}
use Rattle.squall_plan.specs.Ranges.{owner_of}
use Rattle.squall_course.specs.Change.{Change}
use Rattle.squall_course.specs.Subplans.{sub_of}
use Rattle.squall_protocol.specs.Chunks.{ChunkValue, chunk_with}
use Rattle.squall_protocol.specs.declared.event.Node.TheVariants.{Part}
use Rattle.squall_protocol.specs.declared.event.Event.TheVariants.{Close, Give, GiveAt}
use Rattle.squall_protocol.specs.declared.answer.Answer.TheVariants.{Closed, Gave, Refused}
use Rattle.squall_protocol.specs.declared.answer.Refusal.TheVariants.{NoSuch, NotOpen, Ended, NothingLeft, ZeroMax, NotOutgoing, Given, NotHeld}
use Rattle.squall_protocol.specs.Worlds.{WorldValue, is_part}
use Rattle.squall_protocol.specs.Knowledge.{part_in, IsCurrent, NoneOpen, IsClosed, goes_out, is_left}
use Rattle.squall_protocol.specs.Steps.{IsPlan, IsGift, after_close, after_give}
use Rattle.squall_protocol.specs.Acts.{HasAnswer}
use Rattle.squall_protocol.proofs.Changes.{in_span}
use Rattle.squall_protocol.proofs.Courses.{is_outgoing_so, moves_is, moving_key, single_dest}
use Rattle.squall_protocol.proofs.Kept.{Kept}
use Rattle.squall_protocol.specs.WorldLaws.{same_as_itself}
use Rattle.squall_protocol.proofs.Search.{LeastTrue, least_true, some_first}
use Rattle.squall_protocol.proofs.SomeCourse.{zero_or_more, some_course, course_plans}

-- ---- the sub-plan opened last

-- the newest course that a partition knows, both plans of it, and the sub-plan opened last under it, in which it still gives
record AtCourse (w : WorldValue) (p : ℕ) : Type 0 where
  course : Change
  sub : ℕ
  current : IsCurrent (part_in w p) course sub
  plans : IsPlan course.old × IsPlan course.new

-- there is one, or no sub-plan is opened, or the partition gives no more
at_course : (w : WorldValue) → Kept w → (p : ℕ) → AtCourse w p ⊎ (NoneOpen (part_in w p) ⊎ IsClosed (part_in w p))
at_course w kept p =
    let n = some_course w (w.facts (Part p)) kept.first (kept.facts (Part p)) in
    elim (cases_Bool (w.closed n.course.number p)) [
      | inl closed ↦ inr (inr (n.course, n.by, closed))
      | inr gives ↦ elim (zero_or_more ((w.facts (Part p)).opened n.course.number)) [
        | inl none ↦ inr (inl (n.course, n.by, none, gives))
        | inr s ↦ inl (record { course = n.course; sub = s.0; current = (n.by, s.1, gives); plans = course_plans w kept (w.facts (Part p)) n.course n.known })
      ]
    ]

-- to give no more
pub some_close : (w : WorldValue) → Kept w → (p : ℕ) → HasAnswer w (Close p)
some_close w kept p = elim (cases_Bool (is_part w p)) [
  | inr none ↦ (Refused NoSuch, w, (none, same_as_itself w))
  | inl there ↦
      let n = some_course w (w.facts (Part p)) kept.first (kept.facts (Part p)) in
      (Closed n.course.number, after_close w n.course.number p, (there, (n.course, n.by, refl, same_as_itself (after_close w n.course.number p))))
]

-- ---- the chunk

-- a chunk of keys that go out
abbrev gift_of : (w : WorldValue) (p : ℕ) → AtCourse w p → Interval → ChunkValue
gift_of w p a span = chunk_with a.course.number a.sub p (owner_of a.course.new span.lo) span

-- it is a gift, if it has a key
is_gift : (w : WorldValue) (p : ℕ) (a : AtCourse w p) (span : Interval) → span.lo < span.hi → ((k : ℕ) → span_has span k ≡ true → goes_out (part_in w p) a.course a.sub k ≡ true)
    → IsGift (part_in w p) a.course a.sub (gift_of w p a span)
is_gift w p a span some out =
    record {
      number = refl;
      sub_plan = refl;
      source = refl;
      carried = record {
        moving = λ k has. moves_is a.course.old a.course.new k (goes k has).0;
        source = λ k has. (goes k has).2;
        dest = λ k has. single_dest a.course.old a.course.new k span.lo a.plans.0 a.plans.1 (goes k has).0 (goes span.lo first).0 ((goes k has).2 ∙ sym (goes span.lo first).2) ((goes k has).1 ∙ sym (goes span.lo first).1);
        sub_plan = λ k has. (goes k has).1;
      };
    }
  where
    goes : (k : ℕ) → span_has span k ≡ true → (owner_of a.course.old k ≢ owner_of a.course.new k) × (sub_of a.course.old a.course.new k ≡ a.sub) × (owner_of a.course.old k ≡ p)
    goes k has = is_outgoing_so a.course.old a.course.new a.sub p k (out k has)

    first : span_has span span.lo ≡ true
    first = inside span span.lo (le_refl span.lo) some

-- ---- the first keys

-- what is left goes out, and lies below the top
left_goes : (w : WorldValue) (p : ℕ) (a : AtCourse w p) (k : ℕ) → is_left (part_in w p) a.course a.sub k ≡ true → goes_out (part_in w p) a.course a.sub k ≡ true
left_goes w p a k is = (and_parts (goes_out (part_in w p) a.course a.sub k) (w.held p k) is).0

left_key : (w : WorldValue) (p : ℕ) (a : AtCourse w p) (k : ℕ) → is_left (part_in w p) a.course a.sub k ≡ true → k < top
left_key w p a k is = moving_key a.course.old a.course.new k a.plans.0 a.plans.1 (is_outgoing_so a.course.old a.course.new a.sub p k (left_goes w p a k is)).0

give_left : (w : WorldValue) (p most : ℕ) (a : AtCourse w p) → is_part w p ≡ true → LeastTrue (is_left (part_in w p) a.course a.sub) → HasAnswer w (Give p most)
give_left w p zero a there f = (Refused ZeroMax, w, (there, (a.course, a.sub, a.current, (f.0, f.1)), refl, same_as_itself w))
give_left w p (suc most) a there f =
    let s = some_first (is_left (part_in w p) a.course a.sub) most f in
    let gift = is_gift w p a s.0 s.1.some (λ k has. let b = in_span s.0 k has in left_goes w p a k (s.1.keys k b.0 b.1)) in
    (Gave (length w.chunks) (gift_of w p a s.0), after_give w (gift_of w p a s.0), (there, refl, (a.course, a.sub, a.current, s.1, gift), same_as_itself (after_give w (gift_of w p a s.0))))

-- to give the first keys
pub some_give : (w : WorldValue) → Kept w → (p most : ℕ) → HasAnswer w (Give p most)
some_give w kept p most = elim (cases_Bool (is_part w p)) [
  | inr none ↦ (Refused NoSuch, w, (none, same_as_itself w))
  | inl there ↦ elim (at_course w kept p) [
    | inr (inl none) ↦ (Refused NotOpen, w, (there, none, same_as_itself w))
    | inr (inr closed) ↦ (Refused Ended, w, (there, closed, same_as_itself w))
    | inl a ↦ elim (least_true (is_left (part_in w p) a.course a.sub) top (left_key w p a)) [
      | inr none ↦ (Refused NothingLeft, w, (there, (a.course, a.sub, a.current, none), same_as_itself w))
      | inl f ↦ give_left w p most a there f
    ]
  ]
]

-- ---- one key

one_key : (k j : ℕ) → span_has (interval k (k + 1)) j ≡ true → k ≡ j
one_key k j has = let b = in_span (interval k (k + 1)) j has in omega (arith, b.0, b.1)

give_one : (w : WorldValue) (p k : ℕ) (a : AtCourse w p) → is_part w p ≡ true → goes_out (part_in w p) a.course a.sub k ≡ true → w.given a.course.number p k ≡ false → w.held p k ≡ true → HasAnswer w (GiveAt p k)
give_one w p k a there out given held =
    let span = interval k (k + 1) in
    let gift = is_gift w p a span (omega arith) (λ j has. subst (λ i. goes_out (part_in w p) a.course a.sub i ≡ true) (one_key k j has) out) in
    (Gave (length w.chunks) (gift_of w p a span), after_give w (gift_of w p a span), (there, refl, (a.course, a.sub, a.current, out, given, held, refl, gift), same_as_itself (after_give w (gift_of w p a span))))

-- to give one key
pub some_give_at : (w : WorldValue) → Kept w → (p k : ℕ) → HasAnswer w (GiveAt p k)
some_give_at w kept p k = elim (cases_Bool (is_part w p)) [
  | inr none ↦ (Refused NoSuch, w, (none, same_as_itself w))
  | inl there ↦ elim (at_course w kept p) [
    | inr (inl none) ↦ (Refused NotOpen, w, (there, none, same_as_itself w))
    | inr (inr closed) ↦ (Refused Ended, w, (there, closed, same_as_itself w))
    | inl a ↦ elim (cases_Bool (goes_out (part_in w p) a.course a.sub k)) [
      | inr stays ↦ (Refused NotOutgoing, w, (there, (a.course, a.sub, a.current, stays), same_as_itself w))
      | inl out ↦ elim (cases_Bool (w.given a.course.number p k)) [
        | inl before ↦ (Refused Given, w, (there, (a.course, a.sub, a.current, out, before), same_as_itself w))
        | inr first ↦ elim (cases_Bool (w.held p k)) [
          | inr away ↦ (Refused NotHeld, w, (there, (a.course, a.sub, a.current, out, first, away), same_as_itself w))
          | inl held ↦ give_one w p k a there out first held
        ]
      ]
    ]
  ]
]
