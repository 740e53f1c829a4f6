-- Whom the leader waits for.
use Rattle.std.proofs.Common.{◌≡◌, ℕ, zero, suc, ◌+◌, ◌<◌, ◌≤◌, ◌==◌, ◌&&◌, Bool, true, false, List, [], ◌∷◌, Option, None, Some, refl, sym, ap, subst, ◌∙◌, arith, inl, inr}
use Rattle.std.specs.Prelude.{not}
use Rattle.std.specs.List.{find, Contains}
use Rattle.std.proofs.lemmas.Bool.{cases_Bool, false≢true, and_parts, not-true}
use Rattle.std.proofs.lemmas.Option.{none-some, same_Some}
use Rattle.squall_key.specs.Keys.{top, part_limit}
use Rattle.squall_plan.specs.declared.range.PlanRange.{PlanRange}
use Rattle.squall_plan.specs.Ranges.{owner_of}
use Rattle.squall_course.specs.Change.{Change, ArePlans}
use Rattle.squall_course.specs.Subplans.{moves, sub_of}
use Rattle.squall_course.specs.Moves.{moves_of, receivers_of, is_incoming, goes_to}
use Rattle.squall_course.specs.Steps.{Up}
use Rattle.squall_course.proofs.Rising.{filter_up}
use Rattle.squall_course.proofs.Received.{receiver_keys}
use Rattle.squall_report.specs.Cells.{place_at}
use Rattle.squall_report.specs.Facts.{DonePart}
use Rattle.squall_board.specs.Boards.{BoardValue, says}
use Rattle.squall_nodes.proofs.Partitions.{moving_low}
use Rattle.squall_leader.specs.Leaders.{waited_for, waited_after}
use Rattle.std.specs.List.{list_any}

-- ---- the first of rising numbers that passes a test

low : (from q : ℕ) (xs : List ℕ) → Up from xs → Contains xs q → from ≤ q
low from q [] up has = absurd (let none : has.0 < 0 = has.1 in omega (arith, none))
low from q (x ∷ xs) up (zero, lt, at) = subst (λ v. from ≤ v) at up.0
low from q (x ∷ xs) up (suc i, lt, at) = let more = low (x + 1) q xs up.1 (i, omega (arith, lt), at) in let first : from ≤ x = up.0 in omega (arith, more, first)

-- it is the least that does
record IsLeastIn (test : ℕ → Bool) (xs : List ℕ) (p : ℕ) : Type 0 where
  there : Contains xs p
  passes : test p ≡ true
  before : (q : ℕ) → q < p → Contains xs q → test q ≡ false

found_least : (test : ℕ → Bool) (from : ℕ) (xs : List ℕ) (p : ℕ) → Up from xs → find test xs ≡ Some p → IsLeastIn test xs p
found_least test from [] p up e = absurd (none-some p e)
found_least test from (x ∷ xs) p up e = elim (cases_Bool (test x)) [
  | inl is ↦
      let e1 : Some x ≡ Some p = rw is at e in
      let same : x ≡ p = same_Some x p e1 in
      record {
        there = (0, omega arith, same);
        passes = ap test (sym same) ∙ is;
        before = λ q lt has. absurd (let le = low x q (x ∷ xs) (omega arith, up.1) has in omega (arith, lt, le, same));
      }
  | inr is ↦
      let e1 : find test xs ≡ Some p = rw is at e in
      let rest = found_least test (x + 1) xs p up.1 e1 in
      record {
        there = (suc rest.there.0, (let lt = rest.there.1 in omega (arith, lt)), rest.there.2);
        passes = rest.passes;
        before = λ q lt has. before q lt has rest is;
      }
]
  where
    before : (q : ℕ) → q < p → Contains (x ∷ xs) q → IsLeastIn test xs p → test x ≡ false → test q ≡ false
    before q lt (zero, within, at) rest is = ap test (sym at) ∙ is
    before q lt (suc i, within, at) rest is = rest.before q lt (i, omega (arith, within), at)

found_none : (test : ℕ → Bool) (xs : List ℕ) (q : ℕ) → find test xs ≡ None → Contains xs q → test q ≡ false
found_none test [] q e has = absurd (let none : has.0 < 0 = has.1 in omega (arith, none))
found_none test (x ∷ xs) q e (zero, lt, at) = elim (cases_Bool (test x)) [
  | inl is ↦ let e1 : Some x ≡ None = rw is at e in absurd (none-some x (sym e1))
  | inr is ↦ ap test (sym at) ∙ is
]
found_none test (x ∷ xs) q e (suc i, lt, at) = elim (cases_Bool (test x)) [
  | inl is ↦ let e1 : Some x ≡ None = rw is at e in absurd (none-some x (sym e1))
  | inr is ↦ let e1 : find test xs ≡ None = rw is at e in found_none test xs q e1 (i, omega (arith, lt), at)
]

receivers_up : (old new : List PlanRange) (sub : ℕ) → Up 0 (receivers_of (moves_of old new) sub)
unfolding receivers_of
receivers_up old new sub = filter_up (λ part. list_any (goes_to sub part) (moves_of old new)) 0 part_limit

-- ---- keys that come in are below the top

incoming_low : (old new : List PlanRange) (s q k : ℕ) → ArePlans old new → is_incoming old new s q k ≡ true → k < top
incoming_low old new s q k plans is = moving_low old new k plans (and_parts (moves old new k) ((sub_of old new k == s) && (owner_of new k == q)) is).0

comes_to : (old new : List PlanRange) (s q : ℕ) → ArePlans old new → (k : ℕ) × (is_incoming old new s q k ≡ true) → Contains (receivers_of (moves_of old new) s) q
comes_to old new s q plans due = (receiver_keys old new s q plans).1 (due.0, incoming_low old new s q due.0 plans due.1, due.1)

-- ---- whom it waits for

-- keys come in to the partition in the sub-plan opened last, and the board does not say that it has all
pub record IsAwaited (c : Change) (b : BoardValue) (opened s q : ℕ) : Type 0 where
  pub last : s + 1 ≡ opened
  pub due : (k : ℕ) × (is_incoming c.old c.new s q k ≡ true)
  pub waiting : says b (DonePart (place_at c.number s q)) ≡ false

not_false : (b : Bool) → not b ≡ false → b ≡ true
not_false true e = refl
not_false false e = absurd (false≢true (sym e))

-- the least that it waits for
pub least_awaited : (c : Change) (b : BoardValue) (opened s q : ℕ) → ArePlans c.old c.new → opened ≡ s + 1 → waited_for c b s ≡ Some q → IsAwaited c b opened s q × ((p : ℕ) → p < q → IsAwaited c b opened s p → ⊥)
least_awaited c b opened s q plans last e =
    let least = found_least (λ p. not (says b (DonePart (place_at c.number s p)))) 0 (receivers_of (moves_of c.old c.new) s) q (receivers_up c.old c.new s) e in
    let key = (receiver_keys c.old c.new s q plans).0 least.there in (
      record { last = sym last; due = (key.0, key.2); waiting = not-true (says b (DonePart (place_at c.number s q))) least.passes },
      λ p lt other. false≢true (sym other.waiting ∙ not_false (says b (DonePart (place_at c.number s p))) (least.before p lt (comes_to c.old c.new s p plans other.due))),
    )

-- it waits for none
pub none_awaited : (c : Change) (b : BoardValue) (opened s q : ℕ) → ArePlans c.old c.new → waited_after c b opened ≡ None → IsAwaited c b opened s q → ⊥
none_awaited c b zero s q plans e is = let last : s + 1 ≡ 0 = is.last in omega (arith, last)
none_awaited c b (suc t) s q plans e is =
    let same : s ≡ t = (let last : s + 1 ≡ suc t = is.last in omega (arith, last)) in
    let e1 : waited_for c b s ≡ None = ap (waited_for c b) same ∙ e in
    false≢true (sym is.waiting ∙ not_false (says b (DonePart (place_at c.number s q))) (found_none (λ p. not (says b (DonePart (place_at c.number s p)))) (receivers_of (moves_of c.old c.new) s) q e1 (comes_to c.old c.new s q plans is.due)))

-- and where it waits for none, none is found
pub awaits_none : (c : Change) (b : BoardValue) (opened : ℕ) → ArePlans c.old c.new → ((s q : ℕ) → IsAwaited c b opened s q → ⊥) → waited_after c b opened ≡ None
awaits_none c b zero plans none = refl
awaits_none c b (suc s) plans none = by (waited_for c b s) refl
  where
    by : (o : Option ℕ) → waited_for c b s ≡ o → waited_for c b s ≡ None
    by None e = e
    by (Some q) e = absurd (none s q (least_awaited c b (suc s) s q plans (omega arith) e).0)
