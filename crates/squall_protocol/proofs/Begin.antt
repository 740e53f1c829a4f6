-- Beginning the next course keeps what holds.
use Rattle.std.proofs.Common.{◌≡◌, ℕ, ◌+◌, ◌<◌, ◌≤◌, ◌==◌, cond, true, false, List, ◌++◌, refl, sym, ap, ap₂, ◌∙◌, subst, inl, inr, ⊎_elim, arith, le_trans, le_refl}
use Rattle.std.specs.List.{list_any}
use Rattle.std.proofs.lemmas.Bool.{cases_lt, cases_eq, both_ways, eq-eqb, ne_eqb, false_from_ne_true, cond-true, cond-false}
use Rattle.squall_key.specs.Keys.{top}
use Rattle.squall_plan.specs.declared.range.PlanRange.{PlanRange}
use Rattle.squall_plan.specs.Ranges.{owner_of}
use Rattle.squall_report.specs.Issues.{plan_pair}
use Rattle.squall_report.specs.Queries.{issued_queries}
use Rattle.squall_protocol.specs.Known.{last_number}
use Rattle.squall_protocol.specs.declared.event.Node.TheVariants.{Leader}
use Rattle.squall_protocol.specs.Worlds.{WorldValue, is_part}
use Rattle.squall_protocol.specs.Steps.{IsPlan, LeavesAt, IsWhereLeft, after_begin, new_parts}
use Rattle.squall_protocol.proofs.Courses.{old_owner, new_owner, sub_in, count_of, Moves, named_owner, counted_sub, beyond_top}
use Rattle.squall_protocol.proofs.Kept.{IsGiven, IsLoaded, IsSent, HasChunk, Kept}
use Rattle.squall_protocol.proofs.Later.{Later, true_later, old_same, new_same, sub_same, moves_before, moves_after}
use Rattle.squall_protocol.proofs.Parts.{part_stays, part_comes}
use Rattle.squall_protocol.proofs.Says.{issued_true}
use Rattle.squall_protocol.proofs.Tell.{keeps_told}
use Rattle.squall_protocol.proofs.Open.{AllDone, all_loaded}

-- the world with the next course, before the leader is told of it
abbrev pub begun_on : WorldValue → List PlanRange → List PlanRange → WorldValue
begun_on w old new = record w { parts = w.parts ++ new_parts w new; old = λ n. cond (n == w.last + 1) old (w.old n); new = λ n. cond (n == w.last + 1) new (w.new n); last = w.last + 1; opened = λ n. cond (n == w.last + 1) 0 (w.opened n) }

pub later_begun : (w : WorldValue) (old new : List PlanRange) → Later w (begun_on w old new)
later_begun w old new =
    record {
      old = λ n h. cond-false (n == w.last + 1) old (w.old n) (ne_eqb n (w.last + 1) (λ e. above n h e));
      new = λ n h. cond-false (n == w.last + 1) new (w.new n) (ne_eqb n (w.last + 1) (λ e. above n h e));
      last = omega arith;
      opened = λ n h. le_of (sym (cond-false (n == w.last + 1) 0 (w.opened n) (ne_eqb n (w.last + 1) (λ e. above n h e))));
      given = λ m r k h. h;
      loaded = λ m r k h. h;
    }
  where
    above : (n : ℕ) → n ≤ w.last → n ≡ w.last + 1 → ⊥
    above n h e = omega arith

    le_of : {a b : ℕ} → a ≡ b → a ≤ b
    le_of e = omega arith

keeps_begun : (w : WorldValue) (old new : List PlanRange) → w.last < last_number → IsPlan old → IsPlan new → Kept w → IsWhereLeft w old → Kept (begun_on w old new)
keeps_begun w old new number is_old is_new kept where_left =
    record {
      first = omega (arith, kept.first);
      numbers = omega (arith, number);
      olds = λ n h. plan_or n old (w.old n) (λ q. IsPlan q) (λ e. is_old) (λ ne. kept.olds n (omega arith));
      news = λ n h. plan_or n new (w.new n) (λ q. IsPlan q) (λ e. is_new) (λ ne. kept.news n (omega arith));
      old_there = λ n k h key. plan_or n old (w.old n) (λ q. list_any (λ r. r == owner_of q k) (w.parts ++ new_parts w new) ≡ true)
          (λ e. part_stays w (new_parts w new) (owner_of old k) (at_there k key))
          (λ ne. part_stays w (new_parts w new) (old_owner w n k) (kept.old_there n k (omega arith) key));
      new_there = λ n k h key. plan_or n new (w.new n) (λ q. list_any (λ r. r == owner_of q k) (w.parts ++ new_parts w new) ≡ true)
          (λ e. part_comes w new (owner_of new k) is_new (named_owner new k is_new key))
          (λ ne. part_stays w (new_parts w new) (new_owner w n k) (kept.new_there n k (omega arith) key));
      held_true = λ p k h. ⊎_elim
          (λ (same : old_owner (begun_on w old new) (w.last + 1) k ≡ new_owner (begun_on w old new) (w.last + 1) k). inl (rests p k h ∙ sym (old_is k) ∙ same, λ z. absurd (z same)))
          (λ (moves : old_owner (begun_on w old new) (w.last + 1) k ≡ new_owner (begun_on w old new) (w.last + 1) k → ⊥). inr (rests p k h ∙ sym (old_is k), moves, none_given p k))
          (cases_eq (old_owner (begun_on w old new) (w.last + 1) k) (new_owner (begun_on w old new) (w.last + 1) k));
      held_from = λ p k key h. ⊎_elim
          (λ (x : (p ≡ new_owner (begun_on w old new) (w.last + 1) k) × (Moves (begun_on w old new) (w.last + 1) k → w.loaded (w.last + 1) p k ≡ true)). ⊎_elim
          (λ (same : old_owner (begun_on w old new) (w.last + 1) k ≡ new_owner (begun_on w old new) (w.last + 1) k). rests_from p k key (x.0 ∙ sym same ∙ old_is k))
          (λ (moves : old_owner (begun_on w old new) (w.last + 1) k ≡ new_owner (begun_on w old new) (w.last + 1) k → ⊥).
          let l : IsLoaded w (w.last + 1) p k = kept.loaded (w.last + 1) p k (x.1 moves) in
          absurd (both_ways (w.given (w.last + 1) (old_owner w (w.last + 1) k) k) (none_given (old_owner w (w.last + 1) k) k) l.given))
          (cases_eq (old_owner (begun_on w old new) (w.last + 1) k) (new_owner (begun_on w old new) (w.last + 1) k)))
          (λ (x : (p ≡ old_owner (begun_on w old new) (w.last + 1) k) × Moves (begun_on w old new) (w.last + 1) k × (w.given (w.last + 1) p k ≡ false)). rests_from p k key (x.0 ∙ old_is k))
          h;
      given = λ n p k h. let g : IsGiven w n p k = kept.given n p k h in
          record { first = g.first; last = le_trans g.last later.last; moves = moves_after w (begun_on w old new) later n k g.last g.moves; source = old_same w (begun_on w old new) later n k g.last ∙ g.source; opened = lt_same (sub_same w (begun_on w old new) later n k g.last) (later.opened n g.last) g.opened; hears = g.hears };
      loaded = λ n q k h.
          let l : IsLoaded w n q k = kept.loaded n q k h in
          let g : IsGiven w n (old_owner w n k) k = kept.given n (old_owner w n k) k l.given in
          record { dest = new_same w (begun_on w old new) later n k g.last ∙ l.dest; given = subst (λ p. w.given n p k ≡ true) (sym (old_same w (begun_on w old new) later n k g.last)) l.given; hears = l.hears };
      left = λ n k a b. ⊎_elim
          (λ (less : n < w.last). still_left n k (old_owner (begun_on w old new) (n + 1) k) (omega arith)
          (subst (λ q. LeavesAt w n k q) (sym (old_same w (begun_on w old new) later (n + 1) k (omega arith))) (kept.left n k a less)))
          (λ (more : w.last ≤ n). subst (λ m. LeavesAt (begun_on w old new) m k (old_owner (begun_on w old new) (m + 1) k)) (let c : n < w.last + 1 = b in let e : w.last ≡ n = omega arith in e)
          (still_left w.last k (old_owner (begun_on w old new) (w.last + 1) k) (le_refl w.last) (subst (λ q. LeavesAt w w.last k q) (sym (old_is k)) (at_all k))))
          (cases_lt n w.last);
      earlier = λ k a b. absurd (none (sub_in (begun_on w old new) (w.last + 1) k + 1) b);
      facts = λ m. true_later w (begun_on w old new) (w.facts m) later (kept.facts m);
      messages = λ i message h. true_later w (begun_on w old new) message later (kept.messages i message h);
      some = kept.some;
      sent = λ j a h k x.
          let y : IsSent w a k = kept.sent j a h k x in
          let g : IsGiven w a.number a.source k = kept.given a.number a.source k y.given in
          record { source = old_same w (begun_on w old new) later a.number k g.last ∙ y.source; dest = new_same w (begun_on w old new) later a.number k g.last ∙ y.dest; sub = sub_same w (begun_on w old new) later a.number k g.last ∙ y.sub; given = y.given };
      once = kept.once;
      somewhere = λ n m k h. let g : HasChunk w n m k = kept.somewhere n m k h in record { index = g.index; chunk = g.chunk; there = g.there; number = g.number; source = g.source; keys = g.keys };
    }
  where
    later : Later w (begun_on w old new)
    later = later_begun w old new

    plan_or : (n : ℕ) (x y : List PlanRange) (P : List PlanRange → Type 0) → (n ≡ w.last + 1 → P x) → ((n ≡ w.last + 1 → ⊥) → P y) → P (cond (n == w.last + 1) x y)
    plan_or n x y P at apart = ⊎_elim
        (λ (e : n ≡ w.last + 1). subst P (sym (cond-true (n == w.last + 1) x y (eq-eqb n (w.last + 1) e))) (at e))
        (λ (ne : n ≡ w.last + 1 → ⊥). subst P (sym (cond-false (n == w.last + 1) x y (ne_eqb n (w.last + 1) ne))) (apart ne))
        (cases_eq n (w.last + 1))

    not_next : (n : ℕ) → n ≤ w.last → n ≡ w.last + 1 → ⊥
    not_next n h e = omega arith

    lt_same : {a b c d : ℕ} → a ≡ b → c ≤ d → b < c → a < d
    lt_same e f g = omega arith

    below : (n : ℕ) → n < 0 → ⊥
    below n h = omega arith

    none : (n : ℕ) → n < cond (w.last + 1 == w.last + 1) 0 (w.opened (w.last + 1)) → ⊥
    none n h = let e = cond-true (w.last + 1 == w.last + 1) 0 (w.opened (w.last + 1)) (eq-eqb (w.last + 1) (w.last + 1) refl) in below n (subst (λ m. n < m) e h)

    old_is : (k : ℕ) → old_owner (begun_on w old new) (w.last + 1) k ≡ owner_of old k
    old_is k = ap (λ q. owner_of q k) (cond-true (w.last + 1 == w.last + 1) old (w.old (w.last + 1)) (eq-eqb (w.last + 1) (w.last + 1) refl))

    -- beyond the top no key moves
    at_all : (k : ℕ) → LeavesAt w w.last k (owner_of old k)
    at_all k = ⊎_elim
        (λ (key : k < top). where_left k key)
        (λ (high : top ≤ k).
        let same : old_owner w w.last k ≡ new_owner w w.last k = beyond_top (w.old w.last) k (kept.olds w.last (le_refl w.last)).ranges high ∙ sym (beyond_top (w.new w.last) k (kept.news w.last (le_refl w.last)).ranges high) in
        inl (beyond_top old k is_old.ranges high ∙ sym (beyond_top (w.new w.last) k (kept.news w.last (le_refl w.last)).ranges high), λ m. absurd (m same)))
        (cases_lt k top)

    at_there : (k : ℕ) → k < top → is_part w (owner_of old k) ≡ true
    at_there k key = ⊎_elim
        (λ (x : (owner_of old k ≡ new_owner w w.last k) × (Moves w w.last k → w.loaded w.last (owner_of old k) k ≡ true)). subst (λ q. is_part w q ≡ true) (sym x.0) (kept.new_there w.last k (le_refl w.last) key))
        (λ (x : (owner_of old k ≡ old_owner w w.last k) × Moves w w.last k × (w.given w.last (owner_of old k) k ≡ false) × (w.closed w.last (owner_of old k) ≡ true)).
        subst (λ q. is_part w q ≡ true) (sym x.0) (kept.old_there w.last k (le_refl w.last) key))
        (at_all k)

    still_left : (n k p : ℕ) → n ≤ w.last → LeavesAt w n k p → LeavesAt (begun_on w old new) n k p
    still_left n k p h l = ⊎_elim
        (λ (x : (p ≡ new_owner w n k) × (Moves w n k → w.loaded n p k ≡ true)). inl (x.0 ∙ sym (new_same w (begun_on w old new) (later_begun w old new) n k h), λ m. x.1 (moves_before w (begun_on w old new) (later_begun w old new) n k h m)))
        (λ (x : (p ≡ old_owner w n k) × Moves w n k × (w.given n p k ≡ false) × (w.closed n p ≡ true)).
        inr (x.0 ∙ sym (old_same w (begun_on w old new) (later_begun w old new) n k h), moves_after w (begun_on w old new) (later_begun w old new) n k h x.1, x.2, x.3))
        l

    none_given : (p k : ℕ) → w.given (w.last + 1) p k ≡ false
    none_given p k = false_from_ne_true (w.given (w.last + 1) p k) (λ t. let g : IsGiven w (w.last + 1) p k = kept.given (w.last + 1) p k t in not_next (w.last + 1) g.last refl)

    rests : (p k : ℕ) → w.held p k ≡ true → p ≡ owner_of old k
    rests p k h = ⊎_elim
        (λ (x : (owner_of old k ≡ new_owner w w.last k) × (Moves w w.last k → w.loaded w.last (owner_of old k) k ≡ true)). ⊎_elim
        (λ (y : (p ≡ new_owner w w.last k) × (Moves w w.last k → w.loaded w.last p k ≡ true)). y.0 ∙ sym x.0)
        (λ (y : (p ≡ old_owner w w.last k) × Moves w w.last k × (w.given w.last p k ≡ false)).
        let l : IsLoaded w w.last (owner_of old k) k = kept.loaded w.last (owner_of old k) k (x.1 y.1) in
        absurd (both_ways (w.given w.last p k) y.2 (subst (λ q. w.given w.last q k ≡ true) (sym y.0) l.given)))
        (kept.held_true p k h))
        (λ (x : (owner_of old k ≡ old_owner w w.last k) × Moves w w.last k × (w.given w.last (owner_of old k) k ≡ false) × (w.closed w.last (owner_of old k) ≡ true)). ⊎_elim
        (λ (y : (p ≡ new_owner w w.last k) × (Moves w w.last k → w.loaded w.last p k ≡ true)).
        let l : IsLoaded w w.last p k = kept.loaded w.last p k (y.1 x.1) in
        absurd (both_ways (w.given w.last (owner_of old k) k) x.2 (subst (λ q. w.given w.last q k ≡ true) (sym x.0) l.given)))
        (λ (y : (p ≡ old_owner w w.last k) × Moves w w.last k × (w.given w.last p k ≡ false)). y.0 ∙ sym x.0)
        (kept.held_true p k h))
        (at_all k)

    rests_from : (p k : ℕ) → k < top → p ≡ owner_of old k → w.held p k ≡ true
    rests_from p k key e = subst (λ q. w.held q k ≡ true) (sym e) (kept.held_from (owner_of old k) k key (⊎_elim
        (λ (x : (owner_of old k ≡ new_owner w w.last k) × (Moves w w.last k → w.loaded w.last (owner_of old k) k ≡ true)). inl x)
        (λ (x : (owner_of old k ≡ old_owner w w.last k) × Moves w w.last k × (w.given w.last (owner_of old k) k ≡ false) × (w.closed w.last (owner_of old k) ≡ true)). inr (x.0, x.1, x.2))
        (at_all k)))

-- once a course is over, its new plan has each key where it leaves it
pub over_left : (w : WorldValue) → Kept w → AllDone w → count_of w w.last ≤ w.opened w.last → IsWhereLeft w (w.new w.last)
over_left w kept done all_open k key = inl (
  refl,
  λ m.
      let b : sub_in w w.last k < count_of w w.last = counted_sub (w.old w.last) (w.new w.last) k (kept.olds w.last (le_refl w.last)) (kept.news w.last (le_refl w.last)) m in
      all_loaded w kept done k m (omega (arith, b, all_open)),
)

pub keeps_begin : (w : WorldValue) (old new : List PlanRange) → w.last < last_number → IsPlan old → IsPlan new → Kept w → IsWhereLeft w old → Kept (after_begin w old new)
keeps_begin w old new number is_old is_new kept where_left =
    keeps_told (begun_on w old new) Leader (issued_queries (w.last + 1) (plan_pair old new)) (keeps_begun w old new number is_old is_new kept where_left)
    (issued_true (begun_on w old new) (w.last + 1) (plan_pair old new) (omega arith, le_refl (w.last + 1)) (ap₂ plan_pair
    (sym (cond-true (w.last + 1 == w.last + 1) old (w.old (w.last + 1)) (eq-eqb (w.last + 1) (w.last + 1) refl)))
    (sym (cond-true (w.last + 1 == w.last + 1) new (w.new (w.last + 1)) (eq-eqb (w.last + 1) (w.last + 1) refl)))))
