-- Loading a chunk keeps what holds.
use Rattle.std.proofs.Common.{◌≡◌, ℕ, ◌+◌, ◌<◌, ◌≤◌, ◌==◌, ◌||◌, ◌&&◌, not, true, false, refl, sym, ap, ap₂, ◌∙◌, subst, inl, inr, ⊎_elim, arith, le_refl}
use Rattle.std.specs.Prelude.{Some}
use Rattle.std.specs.List.{slice_get}
use Rattle.std.proofs.lemmas.Bool.{cases_Bool, cases_lt, cases_eq, both_ways, eqb-true, eq-eqb, or_cases, or_left, or_right, not-true, not_from_false}
use Rattle.squall_span.specs.Spans.{span_has}
use Rattle.squall_report.specs.Cells.{place_at}
use Rattle.squall_report.specs.Queries.{loaded_queries}
use Rattle.squall_protocol.specs.Chunks.{ChunkValue}
use Rattle.squall_protocol.specs.declared.event.Node.{Node}
use Rattle.squall_protocol.specs.declared.event.Node.TheVariants.{Part}
use Rattle.squall_protocol.specs.Worlds.{WorldValue}
use Rattle.squall_protocol.specs.Steps.{told_to, after_load}
use Rattle.squall_protocol.proofs.Threes.{three, three_from}
use Rattle.squall_protocol.proofs.Courses.{old_owner, new_owner, Moves}
use Rattle.squall_protocol.proofs.Kept.{Hears, TrueFacts, IsGiven, IsLoaded, IsSent, HasChunk, Kept}
use Rattle.squall_protocol.proofs.Later.{Later, true_later}
use Rattle.squall_protocol.proofs.Told.{true_told, hears_told}
use Rattle.squall_protocol.proofs.Says.{loaded_true}

-- a key that was given in a course before the last was loaded in it
pub left_loaded : (w : WorldValue) → Kept w → (n k : ℕ) → 1 ≤ n → n < w.last → w.given n (old_owner w n k) k ≡ true → w.loaded n (new_owner w n k) k ≡ true
left_loaded w kept n k first less given = ⊎_elim
    (λ (x : (old_owner w (n + 1) k ≡ new_owner w n k) × (Moves w n k → w.loaded n (old_owner w (n + 1) k) k ≡ true)).
    let g : IsGiven w n (old_owner w n k) k = kept.given n (old_owner w n k) k given in subst (λ q. w.loaded n q k ≡ true) x.0 (x.1 g.moves))
    (λ (x : (old_owner w (n + 1) k ≡ old_owner w n k) × Moves w n k × (w.given n (old_owner w (n + 1) k) k ≡ false) × (w.closed n (old_owner w (n + 1) k) ≡ true)).
    absurd (both_ways (w.given n (old_owner w n k) k) (subst (λ q. w.given n q k ≡ false) x.0 x.2) given))
    (kept.left n k first less)

-- a key that is in a chunk and not loaded is of the last course
pub flight_last : (w : WorldValue) → Kept w → (i : ℕ) (chunk : ChunkValue) (k : ℕ) → slice_get w.chunks i ≡ Some chunk → span_has chunk.span k ≡ true → w.loaded chunk.number chunk.dest k ≡ false → chunk.number ≡ w.last
flight_last w kept i chunk k there inside flying =
    let sent : IsSent w chunk k = kept.sent i chunk there k inside in
    let given : IsGiven w chunk.number chunk.source k = kept.given chunk.number chunk.source k sent.given in
    let most : chunk.number ≤ w.last = given.last in
    ⊎_elim
    (λ (less : chunk.number < w.last). absurd (both_ways (w.loaded chunk.number chunk.dest k) flying (subst (λ q. w.loaded chunk.number q k ≡ true) sent.dest
    (left_loaded w kept chunk.number k given.first less (subst (λ p. w.given chunk.number p k ≡ true) (sym sent.source) sent.given)))))
    (λ (more : w.last ≤ chunk.number). omega arith)
    (cases_lt chunk.number w.last)

pub later_load : (w : WorldValue) (chunk : ChunkValue) → Later w (after_load w chunk)
later_load w chunk =
    record {
      old = λ m h. refl;
      new = λ m h. refl;
      last = le_refl w.last;
      opened = λ n h. le_refl (w.opened n);
      given = λ m r k h. h;
      loaded = λ m r k h. or_left (w.loaded m r k) ((m == chunk.number) && ((r == chunk.dest) && span_has chunk.span k)) h;
    }

pub keeps_load : (w : WorldValue) (i : ℕ) (chunk : ChunkValue) → Kept w → slice_get w.chunks i ≡ Some chunk → Hears (w.facts (Part chunk.dest)) chunk.number → Kept (after_load w chunk)
keeps_load w i chunk kept there hears =
    record {
      first = kept.first;
      numbers = kept.numbers;
      olds = kept.olds;
      news = kept.news;
      old_there = kept.old_there;
      new_there = kept.new_there;
      held_true = λ m k h. ⊎_elim
          (λ (x : w.held m k ≡ true). ⊎_elim
          (λ (y : (m ≡ new_owner w w.last k) × (Moves w w.last k → w.loaded w.last m k ≡ true)). inl (y.0, λ z. later.loaded w.last m k (y.1 z)))
          (λ (y : (m ≡ old_owner w w.last k) × Moves w w.last k × (w.given w.last m k ≡ false)). inr y)
          (kept.held_true m k x))
          (λ (x : ((m == chunk.dest) && (span_has chunk.span k && not (w.loaded chunk.number chunk.dest k))) ≡ true).
          let t : ((m == chunk.dest) ≡ true) × (span_has chunk.span k ≡ true) × (not (w.loaded chunk.number chunk.dest k) ≡ true) = three (m == chunk.dest) (span_has chunk.span k) (not (w.loaded chunk.number chunk.dest k)) x in
          let is_last : chunk.number ≡ w.last = flight_last w kept i chunk k there t.1 (not-true (w.loaded chunk.number chunk.dest k) t.2) in
          let sent : IsSent w chunk k = kept.sent i chunk there k t.1 in
          inl (
            eqb-true m chunk.dest t.0 ∙ sym sent.dest ∙ ap (λ n. new_owner w n k) is_last,
            λ _. or_right (w.loaded w.last m k) ((w.last == chunk.number) && ((m == chunk.dest) && span_has chunk.span k)) (three_from (w.last == chunk.number) (m == chunk.dest) (span_has chunk.span k) (eq-eqb w.last chunk.number (sym is_last)) t.0 t.1),
          ))
          (or_cases (w.held m k) ((m == chunk.dest) && (span_has chunk.span k && not (w.loaded chunk.number chunk.dest k))) h);
      held_from = λ m k key h. ⊎_elim
          (λ (x : (m ≡ new_owner w w.last k) × (Moves w w.last k → (w.loaded w.last m k || ((w.last == chunk.number) && ((m == chunk.dest) && span_has chunk.span k))) ≡ true)). ⊎_elim
          (λ (same : old_owner w w.last k ≡ new_owner w w.last k). still m k (kept.held_from m k key (inl (x.0, λ z. absurd (z same)))))
          (λ (moves : Moves w w.last k). ⊎_elim
          (λ (y : w.loaded w.last m k ≡ true). still m k (kept.held_from m k key (inl (x.0, λ _. y))))
          (λ (y : ((w.last == chunk.number) && ((m == chunk.dest) && span_has chunk.span k)) ≡ true).
          let t : ((w.last == chunk.number) ≡ true) × ((m == chunk.dest) ≡ true) × (span_has chunk.span k ≡ true) = three (w.last == chunk.number) (m == chunk.dest) (span_has chunk.span k) y in
          ⊎_elim
          (λ (z : w.loaded chunk.number chunk.dest k ≡ true). still m k (kept.held_from m k key (inl (
            x.0,
            λ _.
                subst (λ (u : ℕ × ℕ). w.loaded u.0 u.1 k ≡ true) (ap₂ pair (sym (eqb-true w.last chunk.number t.0)) (sym (eqb-true m chunk.dest t.1))) z,
          ))))
          (λ (z : w.loaded chunk.number chunk.dest k ≡ false). or_right (w.held m k) ((m == chunk.dest) && (span_has chunk.span k && not (w.loaded chunk.number chunk.dest k)))
          (three_from (m == chunk.dest) (span_has chunk.span k) (not (w.loaded chunk.number chunk.dest k)) t.1 t.2 (not_from_false (w.loaded chunk.number chunk.dest k) z)))
          (cases_Bool (w.loaded chunk.number chunk.dest k)))
          (or_cases (w.loaded w.last m k) ((w.last == chunk.number) && ((m == chunk.dest) && span_has chunk.span k)) (x.1 moves)))
          (cases_eq (old_owner w w.last k) (new_owner w w.last k)))
          (λ (x : (m ≡ old_owner w w.last k) × Moves w w.last k × (w.given w.last m k ≡ false)). still m k (kept.held_from m k key (inr x)))
          h;
      given = λ n m k h. let g : IsGiven w n m k = kept.given n m k h in record { first = g.first; last = g.last; moves = g.moves; source = g.source; opened = g.opened; hears = hears_on (Part m) n g.hears };
      loaded = λ n m k h. ⊎_elim
          (λ (x : w.loaded n m k ≡ true). let l : IsLoaded w n m k = kept.loaded n m k x in record { dest = l.dest; given = l.given; hears = hears_on (Part m) n l.hears })
          (λ (x : ((n == chunk.number) && ((m == chunk.dest) && span_has chunk.span k)) ≡ true).
          let t : ((n == chunk.number) ≡ true) × ((m == chunk.dest) ≡ true) × (span_has chunk.span k ≡ true) = three (n == chunk.number) (m == chunk.dest) (span_has chunk.span k) x in
          let sent : IsSent w chunk k = kept.sent i chunk there k t.2 in
          subst (λ (y : ℕ × ℕ). IsLoaded (after_load w chunk) y.0 y.1 k) (ap₂ pair (sym (eqb-true n chunk.number t.0)) (sym (eqb-true m chunk.dest t.1)))
          (record { dest = sent.dest; given = subst (λ q. w.given chunk.number q k ≡ true) (sym sent.source) sent.given; hears = hears_on (Part chunk.dest) chunk.number hears }))
          (or_cases (w.loaded n m k) ((n == chunk.number) && ((m == chunk.dest) && span_has chunk.span k)) h);
      left = λ n k a b. ⊎_elim
          (λ (x : (old_owner w (n + 1) k ≡ new_owner w n k) × (Moves w n k → w.loaded n (old_owner w (n + 1) k) k ≡ true)). inl (x.0, λ m. later.loaded n (old_owner w (n + 1) k) k (x.1 m)))
          (λ (x : (old_owner w (n + 1) k ≡ old_owner w n k) × Moves w n k × (w.given n (old_owner w (n + 1) k) k ≡ false) × (w.closed n (old_owner w (n + 1) k) ≡ true)). inr x)
          (kept.left n k a b);
      earlier = λ k a b. later.loaded w.last (new_owner w w.last k) k (kept.earlier k a b);
      facts = true_told (after_load w chunk) w (Part chunk.dest) (loaded_queries (place_at chunk.number chunk.sub chunk.dest) (span_has chunk.span)) all report_true;
      messages = λ j message h. true_later w (after_load w chunk) message later (kept.messages j message h);
      some = kept.some;
      sent = λ j a h k x. let y : IsSent w a k = kept.sent j a h k x in record { source = y.source; dest = y.dest; sub = y.sub; given = y.given };
      once = kept.once;
      somewhere = λ n m k h. let g : HasChunk w n m k = kept.somewhere n m k h in record { index = g.index; chunk = g.chunk; there = g.there; number = g.number; source = g.source; keys = g.keys };
    }
  where
    pair : ℕ → ℕ → ℕ × ℕ
    pair a b = (a, b)

    later : Later w (after_load w chunk)
    later = later_load w chunk

    still : (m k : ℕ) → w.held m k ≡ true → (w.held m k || ((m == chunk.dest) && (span_has chunk.span k && not (w.loaded chunk.number chunk.dest k)))) ≡ true
    still m k h = or_left (w.held m k) ((m == chunk.dest) && (span_has chunk.span k && not (w.loaded chunk.number chunk.dest k))) h

    all : (m : Node) → TrueFacts (after_load w chunk) (w.facts m)
    all m = true_later w (after_load w chunk) (w.facts m) (later_load w chunk) (kept.facts m)

    report_true : TrueFacts (after_load w chunk) (loaded_queries (place_at chunk.number chunk.sub chunk.dest) (span_has chunk.span))
    report_true = loaded_true (after_load w chunk) (place_at chunk.number chunk.sub chunk.dest) (span_has chunk.span) (λ k h.
        or_right (w.loaded chunk.number chunk.dest k) ((chunk.number == chunk.number) && ((chunk.dest == chunk.dest) && span_has chunk.span k))
        (three_from (chunk.number == chunk.number) (chunk.dest == chunk.dest) (span_has chunk.span k) (eq-eqb chunk.number chunk.number refl) (eq-eqb chunk.dest chunk.dest refl) h))

    hears_on : (m : Node) (n : ℕ) → Hears (w.facts m) n → Hears (told_to w (Part chunk.dest) (loaded_queries (place_at chunk.number chunk.sub chunk.dest) (span_has chunk.span)) m) n
    hears_on m n h = hears_told (after_load w chunk) w (Part chunk.dest) (loaded_queries (place_at chunk.number chunk.sub chunk.dest) (span_has chunk.span)) all report_true m n h
