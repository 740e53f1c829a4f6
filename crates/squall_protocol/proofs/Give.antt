-- Giving keys on keeps what holds.
use Rattle.std.proofs.Common.{◌≡◌, ℕ, ◌+◌, ◌<◌, ◌==◌, ◌||◌, ◌&&◌, not, true, false, [], ◌∷◌, length, refl, sym, ap, ap₂, ◌∙◌, subst, inl, inr, ⊎_elim, arith, le_refl}
use Rattle.std.specs.Prelude.{Some}
use Rattle.std.specs.List.{slice_get}
use Rattle.std.proofs.lemmas.Bool.{both_ways, eqb-true, eq-eqb, and_parts, and_from, and_left, and_right, ne_eqb, or_cases, or_parts, or_from, or_left, or_right, not-true, not_from_false, false_from_ne_true}
use Rattle.squall_span.specs.Spans.{span_has}
use Rattle.squall_protocol.specs.Chunks.{ChunkValue}
use Rattle.squall_protocol.specs.declared.event.Node.TheVariants.{Part}
use Rattle.squall_protocol.specs.Worlds.{WorldValue}
use Rattle.squall_protocol.specs.Steps.{after_give}
use Rattle.squall_protocol.proofs.Threes.{three}
use Rattle.squall_protocol.proofs.Courses.{old_owner, new_owner, sub_in, Moves}
use Rattle.squall_protocol.proofs.Kept.{Hears, IsNewest, IsGiven, IsLoaded, IsSent, HasChunk, Kept}
use Rattle.squall_span.specs.Spans.{Interval}
use Rattle.squall_protocol.specs.Chunks.{chunk_with}
use Rattle.squall_protocol.proofs.Later.{Later, true_later}
use Rattle.squall_protocol.specs.ListLaws.{at_front, at_end, at_either}
use Rattle.squall_protocol.proofs.Places.{newest_is_last, not_given}

-- what a giver makes sure of, of each key of the chunk
pub record IsLeaving (w : WorldValue) (x : ChunkValue) (k : ℕ) : Type 0 where
  pub moves : Moves w x.number k
  pub source : old_owner w x.number k ≡ x.source
  pub dest : new_owner w x.number k ≡ x.dest
  pub sub : sub_in w x.number k ≡ x.sub
  pub held : w.held x.source k ≡ true

pub later_give : (w : WorldValue) (x : ChunkValue) → Later w (after_give w x)
later_give w x =
    record {
      old = λ m h. refl;
      new = λ m h. refl;
      last = le_refl w.last;
      opened = λ n h. le_refl (w.opened n);
      given = λ m r k h. or_left (w.given m r k) ((m == x.number) && ((r == x.source) && span_has x.span k)) h;
      loaded = λ m r k h. h;
    }

-- a chunk of the course begun last
abbrev last_chunk : WorldValue → ℕ → ℕ → ℕ → Interval → ChunkValue
last_chunk w s p q span = chunk_with w.last s p q span

-- the world after that gift
abbrev given_world : WorldValue → ℕ → ℕ → ℕ → Interval → WorldValue
given_world w s p q span = after_give w (last_chunk w s p q span)

give_last : (w : WorldValue) (s p q : ℕ) (span : Interval) (first : ℕ) → Kept w → Hears (w.facts (Part p)) w.last → (w.facts (Part p)).opened w.last ≡ s + 1 → span_has span first ≡ true
    → ((k : ℕ) → span_has span k ≡ true → IsLeaving w (last_chunk w s p q span) k) → Kept (given_world w s p q span)
give_last w s p q span first kept hears opened some out =
    record {
      first = kept.first;
      numbers = kept.numbers;
      olds = kept.olds;
      news = kept.news;
      old_there = kept.old_there;
      new_there = kept.new_there;
      held_true = λ m k h.
          let both : (w.held m k ≡ true) × (not ((m == p) && span_has span k) ≡ true) = and_parts (w.held m k) (not ((m == p) && span_has span k)) h in
          let apart : ((m == p) && span_has span k) ≡ false = not-true ((m == p) && span_has span k) both.1 in
          ⊎_elim
          (λ (x : (m ≡ new_owner w w.last k) × (Moves w w.last k → w.loaded w.last m k ≡ true)). inl x)
          (λ (x : (m ≡ old_owner w w.last k) × Moves w w.last k × (w.given w.last m k ≡ false)). inr (x.0, x.1, or_from (w.given w.last m k) ((w.last == w.last) && ((m == p) && span_has span k)) x.2 (and_right (w.last == w.last) ((m == p) && span_has span k) apart)))
          (kept.held_true m k both.0);
      held_from = λ m k key h. ⊎_elim
          (λ (x : (m ≡ new_owner w w.last k) × (Moves w w.last k → w.loaded w.last m k ≡ true)).
          and_from (w.held m k) (not ((m == p) && span_has span k)) (kept.held_from m k key (inl x)) (not_from_false ((m == p) && span_has span k)
          (false_from_ne_true ((m == p) && span_has span k) (λ t.
          let b : ((m == p) ≡ true) × (span_has span k ≡ true) = and_parts (m == p) (span_has span k) t in
          let o : IsLeaving w (last_chunk w s p q span) k = out k b.1 in
          o.moves (o.source ∙ sym (eqb-true m p b.0) ∙ x.0)))))
          (λ (x : (m ≡ old_owner w w.last k) × Moves w w.last k × ((w.given w.last m k || ((w.last == w.last) && ((m == p) && span_has span k))) ≡ false)).
          let parts : (w.given w.last m k ≡ false) × (((w.last == w.last) && ((m == p) && span_has span k)) ≡ false) = or_parts (w.given w.last m k) ((w.last == w.last) && ((m == p) && span_has span k)) x.2 in
          and_from (w.held m k) (not ((m == p) && span_has span k)) (kept.held_from m k key (inr (x.0, x.1, parts.0))) (not_from_false ((m == p) && span_has span k)
          (false_from_ne_true ((m == p) && span_has span k) (λ t. both_ways ((w.last == w.last) && ((m == p) && span_has span k)) parts.1 (and_from (w.last == w.last) ((m == p) && span_has span k) (eq-eqb w.last w.last refl) t)))))
          h;
      given = λ n m k h. ⊎_elim
          (λ (x : w.given n m k ≡ true). let g : IsGiven w n m k = kept.given n m k x in record { first = g.first; last = g.last; moves = g.moves; source = g.source; opened = g.opened; hears = g.hears })
          (λ (x : ((n == w.last) && ((m == p) && span_has span k)) ≡ true).
          let t : ((n == w.last) ≡ true) × ((m == p) ≡ true) × (span_has span k ≡ true) = three (n == w.last) (m == p) (span_has span k) x in
          let o : IsLeaving w (last_chunk w s p q span) k = out k t.2 in
          subst (λ (y : ℕ × ℕ). IsGiven (given_world w s p q span) y.0 y.1 k) (ap₂ pair (sym (eqb-true n w.last t.0)) (sym (eqb-true m p t.1)))
          (record { first = kept.first; last = le_refl w.last; moves = o.moves; source = o.source; opened = subst (λ u. u < w.opened w.last) (sym o.sub) below; hears = hears }))
          (or_cases (w.given n m k) ((n == w.last) && ((m == p) && span_has span k)) h);
      loaded = λ n m k h. let l : IsLoaded w n m k = kept.loaded n m k h in record { dest = l.dest; given = later.given n (old_owner w n k) k l.given; hears = l.hears };
      left = λ n k a b. ⊎_elim
          (λ (x : (old_owner w (n + 1) k ≡ new_owner w n k) × (Moves w n k → w.loaded n (old_owner w (n + 1) k) k ≡ true)). inl x)
          (λ (x : (old_owner w (n + 1) k ≡ old_owner w n k) × Moves w n k × (w.given n (old_owner w (n + 1) k) k ≡ false) × (w.closed n (old_owner w (n + 1) k) ≡ true)).
          inr (x.0, x.1, or_from (w.given n (old_owner w (n + 1) k) k) ((n == w.last) && ((old_owner w (n + 1) k == p) && span_has span k)) x.2 (and_left (n == w.last) ((old_owner w (n + 1) k == p) && span_has span k) (ne_eqb n w.last (λ e. apart n b e))), x.3))
          (kept.left n k a b);
      earlier = kept.earlier;
      facts = λ node. true_later w (given_world w s p q span) (w.facts node) later (kept.facts node);
      messages = λ i message h. true_later w (given_world w s p q span) message later (kept.messages i message h);
      some = λ i x h. ⊎_elim
          (λ (a : slice_get w.chunks i ≡ Some x). kept.some i x a)
          (λ (a : (i ≡ length w.chunks) × (last_chunk w s p q span ≡ x)). (first, subst (λ (y : ChunkValue). span_has y.span first ≡ true) a.1 some))
          (at_either w.chunks (last_chunk w s p q span) i x h);
      sent = λ i x h k has. ⊎_elim
          (λ (a : slice_get w.chunks i ≡ Some x). let y : IsSent w x k = kept.sent i x a k has in record { source = y.source; dest = y.dest; sub = y.sub; given = later.given x.number x.source k y.given })
          (λ (a : (i ≡ length w.chunks) × (last_chunk w s p q span ≡ x)). subst (λ (y : ChunkValue). span_has y.span k ≡ true → IsSent (given_world w s p q span) y k) a.1 (new_sent k) has)
          (at_either w.chunks (last_chunk w s p q span) i x h);
      once = λ i j a b k h g same_number same_source x y. ⊎_elim
          (λ (old_a : slice_get w.chunks i ≡ Some a). ⊎_elim
          (λ (old_b : slice_get w.chunks j ≡ Some b). kept.once i j a b k old_a old_b same_number same_source x y)
          (λ (new_b : (j ≡ length w.chunks) × (last_chunk w s p q span ≡ b)). absurd (clash i a b k old_a new_b.1 same_number same_source x y))
          (at_either w.chunks (last_chunk w s p q span) j b g))
          (λ (new_a : (i ≡ length w.chunks) × (last_chunk w s p q span ≡ a)). ⊎_elim
          (λ (old_b : slice_get w.chunks j ≡ Some b). absurd (clash j b a k old_b new_a.1 (sym same_number) (sym same_source) y x))
          (λ (new_b : (j ≡ length w.chunks) × (last_chunk w s p q span ≡ b)). new_a.0 ∙ sym new_b.0)
          (at_either w.chunks (last_chunk w s p q span) j b g))
          (at_either w.chunks (last_chunk w s p q span) i a h);
      somewhere = λ n m k h. ⊎_elim
          (λ (x : w.given n m k ≡ true). let g : HasChunk w n m k = kept.somewhere n m k x in record { index = g.index; chunk = g.chunk; there = at_front w.chunks (last_chunk w s p q span ∷ []) g.index g.chunk g.there; number = g.number; source = g.source; keys = g.keys })
          (λ (x : ((n == w.last) && ((m == p) && span_has span k)) ≡ true).
          let t : ((n == w.last) ≡ true) × ((m == p) ≡ true) × (span_has span k ≡ true) = three (n == w.last) (m == p) (span_has span k) x in
          record { index = length w.chunks; chunk = last_chunk w s p q span; there = at_end w.chunks (last_chunk w s p q span); number = sym (eqb-true n w.last t.0); source = sym (eqb-true m p t.1); keys = t.2 })
          (or_cases (w.given n m k) ((n == w.last) && ((m == p) && span_has span k)) h);
    }
  where
    pair : ℕ → ℕ → ℕ × ℕ
    pair a b = (a, b)

    apart : (n : ℕ) → n < w.last → n ≡ w.last → ⊥
    apart n b e = omega arith

    later : Later w (given_world w s p q span)
    later = later_give w (last_chunk w s p q span)

    below : s < w.opened w.last
    below = (kept.facts (Part p)).opened w.last s (omega arith)

    new_sent : (k : ℕ) → span_has span k ≡ true → IsSent (given_world w s p q span) (last_chunk w s p q span) k
    new_sent k x =
        let o : IsLeaving w (last_chunk w s p q span) k = out k x in
        record {
          source = o.source;
          dest = o.dest;
          sub = o.sub;
          given = or_right (w.given w.last p k) ((w.last == w.last) && ((p == p) && span_has span k)) (and_from (w.last == w.last) ((p == p) && span_has span k) (eq-eqb w.last w.last refl) (and_from (p == p) (span_has span k) (eq-eqb p p refl) x));
        }

    clash : (i : ℕ) (a b : ChunkValue) (k : ℕ) → slice_get w.chunks i ≡ Some a → last_chunk w s p q span ≡ b → a.number ≡ b.number → a.source ≡ b.source → span_has a.span k ≡ true → span_has b.span k ≡ true → ⊥
    clash i a b k old is same_number same_source x y =
        let g : IsSent w a k = kept.sent i a old k x in
        let mine : span_has span k ≡ true = subst (λ (z : ChunkValue). span_has z.span k ≡ true) (sym is) y in
        let o : IsLeaving w (last_chunk w s p q span) k = out k mine in
        let n_is : a.number ≡ w.last = same_number ∙ sym (ap (λ (z : ChunkValue). z.number) is) in
        let p_is : a.source ≡ p = same_source ∙ sym (ap (λ (z : ChunkValue). z.source) is) in
        both_ways (w.given w.last p k) (not_given w kept p k o.moves o.source o.held)
        (subst (λ (z : ℕ × ℕ). w.given z.0 z.1 k ≡ true) (ap₂ pair n_is p_is) g.given)

pub keeps_give : (w : WorldValue) (x : ChunkValue) (first : ℕ) → Kept w → IsNewest (w.facts (Part x.source)) x.number → (w.facts (Part x.source)).opened x.number ≡ x.sub + 1 → w.closed x.number x.source ≡ false → span_has x.span first ≡ true
    → ((k : ℕ) → span_has x.span k ≡ true → IsLeaving w x k) → Kept (after_give w x)
keeps_give w x first kept newest opened gives some out =
    let o : IsLeaving w x first = out first some in
    subst (λ m. Hears (w.facts (Part x.source)) m → (w.facts (Part x.source)).opened m ≡ x.sub + 1 → ((k : ℕ) → span_has x.span k ≡ true → IsLeaving w (chunk_with m x.sub x.source x.dest x.span) k)
    → Kept (after_give w (chunk_with m x.sub x.source x.dest x.span)))
    (sym (newest_is_last w kept x.number x.source first newest gives o.moves o.source o.held))
    (λ a b d. give_last w x.sub x.source x.dest x.span first kept a b some d)
    newest.0 opened out
