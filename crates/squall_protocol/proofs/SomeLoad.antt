-- A destination to which a chunk comes has an answer.
use Rattle.std.proofs.Common.{◌≡◌, ◌⊎◌, ℕ, ◌&&◌, not, Bool, true, false, refl, sym, subst, inl, inr}
use Rattle.std.specs.Prelude.{Some, None, Option}
use Rattle.std.specs.List.{slice_get}
use Rattle.std.proofs.lemmas.Bool.{cases_Bool, cases_lt, both_ways, and_parts, and_from, not-true, not_from_false, true_from_ne_false}
use Rattle.squall_span.specs.Spans.{span_has}
use Rattle.squall_course.specs.Change.{Change}
use Rattle.squall_protocol.specs.Chunks.{ChunkValue, load_report}
use Rattle.squall_protocol.specs.Carried.{Carried}
use Rattle.squall_protocol.specs.declared.event.Node.TheVariants.{Part}
use Rattle.squall_protocol.specs.declared.event.Event.TheVariants.{Load}
use Rattle.squall_protocol.specs.declared.answer.Answer.TheVariants.{Loaded, Again, Refused}
use Rattle.squall_protocol.specs.declared.answer.Refusal.TheVariants.{NoSuch, NotOpen, Stranger}
use Rattle.squall_protocol.specs.Worlds.{WorldValue, is_part, course_at, first_course}
use Rattle.squall_protocol.specs.Knowledge.{part_in, known_by, Knows}
use Rattle.squall_protocol.specs.Steps.{IsArriving, MayLoad, after_load}
use Rattle.squall_protocol.specs.Acts.{HasAnswer}
use Rattle.squall_protocol.proofs.Changes.{in_span}
use Rattle.squall_protocol.proofs.Courses.{moves_is}
use Rattle.squall_protocol.proofs.Kept.{IsGiven, Kept}
use Rattle.squall_protocol.proofs.Known.{known_course}
use Rattle.squall_protocol.specs.WorldLaws.{same_as_itself}
use Rattle.squall_protocol.proofs.Search.{least_true}

-- there is something, or nothing
pub some_or_none : {A : Type 0} (o : Option A) → ((x : A) × (o ≡ Some x)) ⊎ (o ≡ None)
some_or_none None = inr refl
some_or_none (Some x) = inl (x, refl)

-- nothing is not something
pub none_is_some : {A : Type 0} (o : Option A) (x : A) → o ≡ None → o ≡ Some x → ⊥
none_is_some o x e f = cc

-- a chunk of a world fits its course
fits : (w : WorldValue) → Kept w → (i : ℕ) (x : ChunkValue) → slice_get w.chunks i ≡ Some x → Carried (course_at w x.number) x
fits w kept i x there =
    record {
      moving = λ k has. moves_is (w.old x.number) (w.new x.number) k (given k has).moves;
      source = λ k has. (kept.sent i x there k has).source;
      dest = λ k has. (kept.sent i x there k has).dest;
      sub_plan = λ k has. (kept.sent i x there k has).sub;
    }
  where
    given : (k : ℕ) → span_has x.span k ≡ true → IsGiven w x.number x.source k
    given k has = kept.given x.number x.source k (kept.sent i x there k has).given

-- the key of the chunk is not loaded
abbrev is_due : WorldValue → ChunkValue → ℕ → Bool
is_due w x k = span_has x.span k && not (w.loaded x.number x.dest k)

due_so : (w : WorldValue) (x : ChunkValue) (k : ℕ) → is_due w x k ≡ true → (span_has x.span k ≡ true) × (w.loaded x.number x.dest k ≡ false)
due_so w x k is = let b = and_parts (span_has x.span k) (not (w.loaded x.number x.dest k)) is in (b.0, not-true (w.loaded x.number x.dest k) b.1)

none_due : (w : WorldValue) (x : ChunkValue) → ((k : ℕ) → is_due w x k ≡ false) → (k : ℕ) → span_has x.span k ≡ true → w.loaded x.number x.dest k ≡ true
none_due w x none k has = true_from_ne_false (w.loaded x.number x.dest k) (λ f.
    both_ways (is_due w x k) (none k) (and_from (span_has x.span k) (not (w.loaded x.number x.dest k)) has (not_from_false (w.loaded x.number x.dest k) f)))

-- a chunk that may be loaded
load_it : (w : WorldValue) (i : ℕ) (x : ChunkValue) → IsArriving w i x → MayLoad w x → HasAnswer w (Load i)
load_it w i x at may = elim (least_true (is_due w x) x.span.hi (λ k is. (in_span x.span k (due_so w x k is).0).1)) [
  | inl f ↦ let due = due_so w x f.0 f.1 in (Loaded (load_report x), after_load w x, (x, at, may, (f.0, due.0, due.1), refl, same_as_itself (after_load w x)))
  | inr none ↦ (Again, w, ((x, at, may, none_due w x none), same_as_itself w))
]

-- a chunk at its destination
load_there : (w : WorldValue) → Kept w → (i : ℕ) (x : ChunkValue) → IsArriving w i x → HasAnswer w (Load i)
load_there w kept i x at = elim (some_or_none (known_by (first_course w) (w.facts (Part x.dest)) x.number)) [
  | inr none ↦
      let strange : (c : Change) → Knows (part_in w x.dest) x.number c → ⊥ = λ c knows. none_is_some (known_by (first_course w) (w.facts (Part x.dest)) x.number) c none knows in
      (Refused Stranger, w, ((x, at, (λ may. strange may.course may.known), λ c knows. absurd (strange c knows)), same_as_itself w))
  | inl c ↦ elim (cases_lt x.sub ((w.facts (Part x.dest)).opened x.number)) [
    | inr early ↦ (Refused NotOpen, w, ((x, at, c, early), same_as_itself w))
    | inl opened ↦
        let known = known_course w (w.facts (Part x.dest)) x.number c.0 kept.first (kept.facts (Part x.dest)) c.1 in
        load_it w i x at (record { course = c.0; known = c.1; opened = opened; fits = subst (λ (d : Change). Carried d x) (sym known.same) (fits w kept i x at.chunk) })
  ]
]

-- a chunk comes
pub some_load : (w : WorldValue) → Kept w → (i : ℕ) → HasAnswer w (Load i)
some_load w kept i = elim (some_or_none (slice_get w.chunks i)) [
  | inr none ↦ (Refused NoSuch, w, (inl none, same_as_itself w))
  | inl x ↦ elim (cases_Bool (is_part w x.0.dest)) [
    | inr away ↦ (Refused NoSuch, w, (inr (x.0, x.1, away), same_as_itself w))
    | inl there ↦ load_there w kept i x.0 (record { chunk = x.1; dest = there })
  ]
]
