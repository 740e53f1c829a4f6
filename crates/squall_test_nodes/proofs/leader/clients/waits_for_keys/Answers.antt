use Rattle.std.proofs.Common.{◌≡◌, ℕ, zero, suc, ◌<◌, Bool, true, false, List, [], ◌∷◌, None, Some, length, get_or, refl, sym, ap, ◌∙◌, arith, inl, inr}
use Rattle.std.specs.Prelude.{not}
use Rattle.std.specs.List.{find, Contains}
use Rattle.std.proofs.lemmas.Bool.{cases_Bool, false≢true}
use Rattle.std.proofs.lemmas.Option.{none-some, same_Some}
use Rattle.squall_course.specs.Moves.{moves_of, receivers_of}
use Rattle.squall_leader.specs.Waiting.{awaits}
use Rattle.squall_test_nodes.proofs.leader.clients.waits_for_keys.Goals as goal

not_true : (b : Bool) → not b ≡ true → b ≡ false
not_true true e = absurd (false≢true e)
not_true false e = refl

not_false : (b : Bool) → not b ≡ false → b ≡ true
not_false true e = refl
not_false false e = absurd (false≢true (sym e))

found : (test : ℕ → Bool) (xs : List ℕ) (p : ℕ) → find test xs ≡ Some p → Contains xs p × (test p ≡ true)
found test [] p e = absurd (none-some p e)
found test (x ∷ xs) p e = elim (cases_Bool (test x)) [
  | inl is ↦
      let e1 : Some x ≡ Some p = rw is at e in
      let same = same_Some x p e1 in
      ((0, omega arith, same), ap test (sym same) ∙ is)
  | inr is ↦
      let e1 : find test xs ≡ Some p = rw is at e in
      let rest = found test xs p e1 in
      ((suc rest.0.0, omega (arith, rest.0.1), rest.0.2), rest.1)
]

not_found : (test : ℕ → Bool) (xs : List ℕ) (k p : ℕ) → find test xs ≡ None → k < length xs → get_or xs k p ≡ p → test p ≡ false
not_found test [] k p e lt at = absurd (omega (arith, lt))
not_found test (x ∷ xs) zero p e lt at = elim (cases_Bool (test x)) [
  | inl is ↦ let e1 : Some x ≡ None = rw is at e in absurd (none-some x (sym e1))
  | inr is ↦ ap test (sym at) ∙ is
]
not_found test (x ∷ xs) (suc k) p e lt at = elim (cases_Bool (test x)) [
  | inl is ↦ let e1 : Some x ≡ None = rw is at e in absurd (none-some x (sym e1))
  | inr is ↦ let e1 : find test xs ≡ None = rw is at e in not_found test xs k p e1 (omega (arith, lt)) at
]

pub returns : goal.returns
returns c = record {
  some = λ d sub part begun waited.
      let all = found (awaits c.args.leader.now.board d.number sub) (receivers_of (moves_of d.old d.new) sub) part waited in
      (not_true _ all.1, (c.receivers_have_keys.ensures d.old d.new sub part (c.known.ensures.leader.plans d begun)).0 all.0);
  none = λ d sub part k begun waited low coming.
      let here = (c.receivers_have_keys.ensures d.old d.new sub part (c.known.ensures.leader.plans d begun)).1 (k, low, coming) in
      not_false _ (not_found (awaits c.args.leader.now.board d.number sub) (receivers_of (moves_of d.old d.new) sub) here.0 part waited here.1 here.2);
}
