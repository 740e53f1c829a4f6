-- Where a course leaves a key stays true, and partitions find it out each by itself.
use Rattle.std.proofs.Common.{◌≡◌, ℕ, ◌≤◌, ◌==◌, ◌&&◌, true, false, List, [], ◌∷◌, refl, sym, ap₂, ◌∙◌, subst, inl, inr, ⊎_elim, le_trans}
use Rattle.std.proofs.lemmas.Bool.{eqb-true, and_parts, or_from, or_left, both_ways, false_from_ne_true}
use Rattle.squall_span.specs.Spans.{span_has}
use Rattle.squall_plan.specs.declared.range.PlanRange.{PlanRange}
use Rattle.squall_plan.specs.Ranges.{owner_of}
use Rattle.squall_protocol.specs.declared.event.Event.{Event}
use Rattle.squall_protocol.specs.declared.answer.Answer.{Answer}
use Rattle.squall_protocol.specs.Worlds.{WorldValue}
use Rattle.squall_protocol.specs.WorldLaws.{same_world}
use Rattle.squall_protocol.specs.Steps.{LeavesAt, IsWhereLeft, HoldsOwn, Step, Run}
use Rattle.squall_protocol.proofs.Courses.{old_owner, new_owner, Moves}
use Rattle.squall_protocol.proofs.Kept.{Kept}
use Rattle.squall_protocol.proofs.Later.{Later, old_same, new_same, moves_before, moves_after}
use Rattle.squall_protocol.proofs.Changes.{WorldChange, stays, opens, begins, closes, gives, loads, tells, sends}
use Rattle.squall_protocol.proofs.Runs.{Became, became, keeps_step, later_step}

-- what a change leaves as it was: who is closed stays so, and gives no more
record StaysShut (w v : WorldValue) (n p k : ℕ) : Type 0 where
  closed : v.closed n p ≡ true
  given : v.given n p k ≡ false

shut_change : (w v : WorldValue) → WorldChange w v → (n p k : ℕ) → w.closed n p ≡ true → w.given n p k ≡ false → StaysShut w v n p k
shut_change w _ stays n p k closed given = record { closed = closed; given = given }
shut_change w _ (opens none more) n p k closed given = record { closed = closed; given = given }
shut_change w _ (begins old new number is_old is_new where_left) n p k closed given = record { closed = closed; given = given }
shut_change w _ (closes m q) n p k closed given = record { closed = or_left (w.closed n p) ((n == m) && (p == q)) closed; given = given }
shut_change w _ (gives x first newest opened still some out) n p k closed given =
    record {
      closed = closed;
      given = or_from (w.given n p k) ((n == x.number) && ((p == x.source) && span_has x.span k)) given (false_from_ne_true ((n == x.number) && ((p == x.source) && span_has x.span k)) (λ t.
          let a = and_parts (n == x.number) ((p == x.source) && span_has x.span k) t in
          let b = and_parts (p == x.source) (span_has x.span k) a.1 in
          both_ways (w.closed x.number x.source) still (subst (λ (y : ℕ × ℕ). w.closed y.0 y.1 ≡ true) (ap₂ pair (eqb-true n x.number a.0) (eqb-true p x.source b.0)) closed)));
    }
  where
    pair : ℕ → ℕ → ℕ × ℕ
    pair a b = (a, b)
shut_change w _ (loads i x there hears) n p k closed given = record { closed = closed; given = given }
shut_change w _ (tells node more true_more) n p k closed given = record { closed = closed; given = given }
shut_change w _ (sends message is_true) n p k closed given = record { closed = closed; given = given }

left_step : (w v : WorldValue) (e : Event) (r : Answer) → Kept w → Step w e r v → (n k p : ℕ) → n ≤ w.last → LeavesAt w n k p → LeavesAt v n k p
left_step w v e r kept step n k p most left =
    let later : Later w v = later_step w v e r kept step in
    let b : Became w v = became w v e r kept step in
    ⊎_elim
    (λ (x : (p ≡ new_owner w n k) × (Moves w n k → w.loaded n p k ≡ true)). inl (x.0 ∙ sym (new_same w v later n k most), λ m. later.loaded n p k (x.1 (moves_before w v later n k most m))))
    (λ (x : (p ≡ old_owner w n k) × Moves w n k × (w.given n p k ≡ false) × (w.closed n p ≡ true)).
    let s : StaysShut w v n p k = subst (λ u. StaysShut w u n p k) (sym (same_world v b.next b.same)) (shut_change w b.next b.change n p k x.3 x.2) in
    inr (x.0 ∙ sym (old_same w v later n k most), moves_after w v later n k most x.1, s.given, s.closed))
    left

-- so partitions may be asked one after another
pub left_stays : (w : WorldValue) → Kept w → (n k p : ℕ) → n ≤ w.last → LeavesAt w n k p → (es : List Event) (rs : List Answer) (v : WorldValue) → Run w es rs v → LeavesAt v n k p
left_stays w kept n k p most left [] [] v run = subst (λ u. LeavesAt u n k p) (sym (same_world v w run)) left
left_stays w kept n k p most left (e ∷ es) (r ∷ rs) v run =
    let later : Later w run.0 = later_step w run.0 e r kept run.1 in
    left_stays run.0 (keeps_step w run.0 e r kept run.1) n k p (le_trans most later.last) (left_step w run.0 e r kept run.1 n k p most left) es rs v run.2
left_stays w kept n k p most left [] (r ∷ rs) v run = absurd run
left_stays w kept n k p most left (e ∷ es) [] v run = absurd run

-- a plan by which each partition holds its own has each key where the last course leaves it
pub each_holds : (w : WorldValue) → Kept w → (old : List PlanRange) → ((p : ℕ) → HoldsOwn w old p) → IsWhereLeft w old
each_holds w kept old own k key = ⊎_elim
    (λ (x : (owner_of old k ≡ new_owner w w.last k) × (Moves w w.last k → w.loaded w.last (owner_of old k) k ≡ true)). inl x)
    (λ (x : (owner_of old k ≡ old_owner w w.last k) × Moves w w.last k × (w.given w.last (owner_of old k) k ≡ false)).
    inr (x.0, x.1, x.2, (own (owner_of old k)).closed k key refl x.1 (sym x.0)))
    (kept.held_true (owner_of old k) k ((own (owner_of old k)).held k key refl))
