-- What is awaited comes, and what is over is there.
use Rattle.std.proofs.Common.{◌≡◌, ◌⊎◌, ℕ, ◌+◌, ◌<◌, ◌≤◌, true, false, refl, sym, ap, ap₂, ◌∙◌, subst, inl, inr, ⊎_elim, arith}
use Rattle.std.specs.Prelude.{Some}
use Rattle.std.specs.List.{slice_get}
use Rattle.std.proofs.lemmas.Bool.{cases_Bool, cases_lt, both_ways}
use Rattle.squall_plan.specs.Ranges.{owner_of}
use Rattle.squall_course.specs.Change.{Change}
use Rattle.squall_course.specs.Subplans.{moves}
use Rattle.squall_board.specs.CourseRoute.{IsCourseBy}
use Rattle.squall_protocol.specs.Chunks.{ChunkValue}
use Rattle.squall_protocol.specs.declared.event.Node.TheVariants.{Part}
use Rattle.squall_protocol.specs.Worlds.{WorldValue, first_course, course_at}
use Rattle.squall_protocol.specs.Knowledge.{part_in, ComesUnder, OldOwnerUnder}
use Rattle.squall_protocol.specs.Promises.{IsInFlight, HasEnded, AwaitedComes, OverIsThere}
use Rattle.squall_protocol.proofs.Courses.{old_owner, new_owner, Moves, count_of, is_moves, moving_key}
use Rattle.squall_protocol.proofs.Kept.{IsSent, HasChunk, Kept}
use Rattle.squall_protocol.proofs.Known.{KnownCourse, known_course, NewestCourse, newest_course}
use Rattle.squall_protocol.proofs.Open.{all_done}
use Rattle.squall_protocol.proofs.Begin.{over_left}

-- the key is at the source, or on its way from there to p
abbrev Comes : WorldValue → ℕ → ℕ → ℕ → Type 0
Comes w p k source = (w.held source k ≡ true) ⊎ ((i : ℕ) × (x : ChunkValue) × (slice_get w.chunks i ≡ Some x) × IsInFlight w x k × (x.source ≡ source) × (x.dest ≡ p))

-- a key that moves to p in the last course, and is not loaded, is at its old owner or on its way
last_comes : (w : WorldValue) → Kept w → (p k : ℕ) → Moves w w.last k → new_owner w w.last k ≡ p → w.loaded w.last p k ≡ false → Comes w p k (old_owner w w.last k)
last_comes w kept p k moves dest away = ⊎_elim
    (λ (given : w.given w.last (old_owner w w.last k) k ≡ true).
    let f : HasChunk w w.last (old_owner w w.last k) k = kept.somewhere w.last (old_owner w w.last k) k given in
    let s : IsSent w f.chunk k = kept.sent f.index f.chunk f.there k f.keys in
    let to : p ≡ f.chunk.dest = sym dest ∙ subst (λ n. new_owner w n k ≡ f.chunk.dest) f.number s.dest in
    inr (f.index, f.chunk, f.there, (f.keys, subst (λ (x : ℕ × ℕ). w.loaded x.0 x.1 k ≡ false) (ap₂ pair (sym f.number) to) away), f.source, sym to))
    (λ (stays : w.given w.last (old_owner w w.last k) k ≡ false).
    inl (kept.held_from (old_owner w w.last k) k (moving_key (w.old w.last) (w.new w.last) k (kept.olds w.last (omega arith)) (kept.news w.last (omega arith)) moves) (inr (refl, moves, stays))))
    (cases_Bool (w.given w.last (old_owner w w.last k) k))
  where
    pair : ℕ → ℕ → ℕ × ℕ
    pair a b = (a, b)

-- the source gives no more in a course that is over, if a key that moves in it is not loaded
source_ended : (w : WorldValue) → Kept w → (n k : ℕ) → 1 ≤ n → n < w.last → Moves w n k → w.loaded n (new_owner w n k) k ≡ false → w.closed n (old_owner w n k) ≡ true
source_ended w kept n k first less moves away = ⊎_elim
    (λ (x : (old_owner w (n + 1) k ≡ new_owner w n k) × (Moves w n k → w.loaded n (old_owner w (n + 1) k) k ≡ true)).
    absurd (both_ways (w.loaded n (new_owner w n k) k) away (subst (λ q. w.loaded n q k ≡ true) x.0 (x.1 moves))))
    (λ (x : (old_owner w (n + 1) k ≡ old_owner w n k) × Moves w n k × (w.given n (old_owner w (n + 1) k) k ≡ false) × (w.closed n (old_owner w (n + 1) k) ≡ true)).
    subst (λ q. w.closed n q ≡ true) x.0 x.3)
    (kept.left n k first less)

-- what a partition knows that waits for a key: its newest course, by which the key comes to it
record Awaits (w : WorldValue) (p k source : ℕ) : Type 0 where
  course : Change
  by : IsCourseBy (first_course w) (w.facts (Part p)) course
  known : NewestCourse w (w.facts (Part p)) course
  moves : Moves w course.number k
  dest : new_owner w course.number k ≡ p
  from : source ≡ old_owner w course.number k
  away : w.loaded course.number p k ≡ false

awaits : (w : WorldValue) → Kept w → (p k source m : ℕ) → ComesUnder (part_in w p) k m → OldOwnerUnder (part_in w p) k m source → Awaits w p k source
awaits w kept p k source m x owner =
    let known : NewestCourse w (w.facts (Part p)) x.0 = newest_course w (w.facts (Part p)) x.0 kept.first (kept.facts (Part p)) x.1 in
    let by : KnownCourse w (w.facts (Part p)) m owner.0 = known_course w (w.facts (Part p)) m owner.0 kept.first (kept.facts (Part p)) owner.1 in
    let number : x.0.number ≡ m = x.2 in
    record {
      course = x.0;
      by = x.1;
      known = known;
      moves = is_moves (w.old x.0.number) (w.new x.0.number) k (subst (λ (c : Change). moves c.old c.new k ≡ true) known.same x.3);
      dest = subst (λ (c : Change). owner_of c.new k ≡ p) known.same x.4;
      from = owner.2 ∙ ap (λ (c : Change). owner_of c.old k) (by.same ∙ ap (course_at w) (sym number));
      away = subst (λ n. w.loaded n p k ≡ false) (sym number) x.5;
    }

pub awaited_comes : (w : WorldValue) → Kept w → AwaitedComes w
awaited_comes w kept p k after source (away, (g, m, given, coming, above, owner)) = ⊎_elim
    (λ (zero : m ≡ 0). absurd (none g m above zero))
    (λ (x : ComesUnder (part_in w p) k m).
    let a : Awaits w p k source = awaits w kept p k source m x owner in
    let most : a.course.number ≤ w.last = a.known.begun.1 in
    ⊎_elim
    (λ (less : a.course.number < w.last).
    inr (inr (record {
      course = a.course;
      newest = a.by;
      later = less;
      closed = subst (λ q. w.closed a.course.number q ≡ true) (sym a.from)
          (source_ended w kept a.course.number k a.known.begun.0 less a.moves (subst (λ q. w.loaded a.course.number q k ≡ false) (sym a.dest) a.away));
    })))
    (λ (more : w.last ≤ a.course.number).
    let is : a.course.number ≡ w.last = omega arith in
    comes_or (subst (λ q. Comes w p k q) (sym (a.from ∙ ap (λ n. old_owner w n k) is))
    (last_comes w kept p k (subst (λ n. Moves w n k) is a.moves) (subst (λ n. new_owner w n k ≡ p) is a.dest) (subst (λ n. w.loaded n p k ≡ false) is a.away))))
    (cases_lt a.course.number w.last))
    coming.reached
  where
    none : (g m : ℕ) → g < m → m ≡ 0 → ⊥
    none g m a b = omega arith

    comes_or : Comes w p k source → (w.held source k ≡ true) ⊎ (((i : ℕ) × (x : ChunkValue) × (slice_get w.chunks i ≡ Some x) × IsInFlight w x k × (x.source ≡ source) × (x.dest ≡ p)) ⊎ HasEnded w p source)
    comes_or c = elim c [ inl here ↦ inl here | inr way ↦ inr (inl way) ]

pub over_is_there : (w : WorldValue) → Kept w → OverIsThere w
over_is_there w kept over k key =
    let all : w.opened w.last ≡ count_of w w.last = over.0 in
    ⊎_elim
    (λ (x : (new_owner w w.last k ≡ new_owner w w.last k) × (Moves w w.last k → w.loaded w.last (new_owner w w.last k) k ≡ true)). kept.held_from (new_owner w w.last k) k key (inl x))
    (λ (x : (new_owner w w.last k ≡ old_owner w w.last k) × Moves w w.last k × (w.given w.last (new_owner w w.last k) k ≡ false) × (w.closed w.last (new_owner w w.last k) ≡ true)). absurd (x.1 (sym x.0)))
    (over_left w kept (all_done w over.1) (omega (arith, all)) k key)
