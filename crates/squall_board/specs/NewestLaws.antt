-- The last entry above a number is the greatest.
use Rattle.std.specs.Prelude.{◌≡◌, ◌≢◌, ℕ, ◌+◌, ◌<◌, ◌≤◌, ◌==◌, T, Bool, true, false, cond, nat_lt, List, [], ◌∷◌, length, suc, zero, Option, None, Some, is_some, option_map, ◌⊎◌, refl}
use Rattle.std.proofs.Common.{sym, ap, ◌∙◌, arith, inl, inr, get_or, drop}
use Rattle.std.proofs.lemmas.Bool.{cases_lt, true≢false}
use Rattle.std.proofs.lemmas.List.{drop_more}
use Rattle.std.proofs.lemmas.Bool.Decides.{nat_tests}
use Rattle.std.specs.Ordering.{nat_cmp, is_lt, is_eq}
use Rattle.std.specs.FinMap.Entries.{is_sorted, below_all, find}
use Rattle.squall_join.specs.declared.flat.Flat.{Flat}
use Rattle.squall_join.specs.declared.flat.Flat.TheVariants.{Unknown, One, Clash}
use Rattle.squall_join.specs.MapLaws.{first, second}
use Rattle.squall_join.specs.Looked.{looked}
use Rattle.squall_report.specs.Issues.{PlanPair}
use Rattle.squall_board.specs.Boards.{BoardValue, IsBoard, issues_in, issued}
use Rattle.squall_board.specs.Newest.{IsNewest, one_above, or_before, newest_in, newest_of}

abbrev at : List (ℕ × Flat PlanPair) → ℕ → Flat PlanPair
at es n = looked Unknown (find nat_cmp n es)

cmp_eq : (x y : ℕ) → is_eq (nat_cmp x y) ≡ (x == y)
cmp_eq x y = grind (arith, nat_tests)

cmp_lt : (x y : ℕ) → is_lt (nat_cmp x y) ≡ nat_lt x y
cmp_lt x y = grind (arith, nat_tests)

is_below : (x y : ℕ) → T (is_lt (nat_cmp x y)) → x < y
is_below x y t = let h : nat_lt x y ≡ true = sym (cmp_lt x y) ∙ of_T (is_lt (nat_cmp x y)) t in grind (arith, nat_tests)
  where
    of_T : (b : Bool) → T b → b ≡ true
    of_T true t = refl
    of_T false t = absurd t

-- the head's value at its own number, and the tail's at each other
at_head : (e : ℕ × Flat PlanPair) (es : List (ℕ × Flat PlanPair)) → at (e ∷ es) e.0 ≡ e.1
at_head e es = ap (λ b. looked Unknown (cond b (Some e.1) (find nat_cmp e.0 es))) (cmp_eq e.0 e.0 ∙ itself)
  where
    itself : (e.0 == e.0) ≡ true
    itself = grind (arith, nat_tests)

at_tail : (e : ℕ × Flat PlanPair) (es : List (ℕ × Flat PlanPair)) (n : ℕ) → n ≢ e.0 → at (e ∷ es) n ≡ at es n
at_tail e es n other = ap (λ b. looked Unknown (cond b (Some e.1) (find nat_cmp n es))) (cmp_eq n e.0 ∙ differ)
  where
    differ : (n == e.0) ≡ false
    differ = grind (arith, nat_tests)

-- below all numbers nothing is found
at_below : (x n : ℕ) (es : List (ℕ × Flat PlanPair)) → T (below_all nat_cmp x es) → n ≤ x → at es n ≡ Unknown
at_below x n [] below le = refl
at_below x n (e ∷ es) below le = let lt : x < e.0 = is_below x e.0 (first _ _ below) in at_tail e es n (λ s. omega (arith, s)) ∙ at_below x n es (second _ _ below) le

no_one : (p : PlanPair) → Unknown ≢ One p
no_one p e = cc

no_clash : (p : PlanPair) → Clash ≢ One p
no_clash p e = cc

eq_cases : (n m : ℕ) → (n ≡ m) ⊎ (n ≢ m)
eq_cases n m = elim (cases_lt n m) [
  | inl lt ↦ inr (λ e. omega (arith, e))
  | inr ge ↦ elim (cases_lt m n) [ inl lt ↦ inr (λ e. omega (arith, e)) | inr le ↦ inl (omega arith) ]
]

-- if no entry of the tail is newest, the head is, as long as it has one pair above the number
none_in_tail : (low n : ℕ) (x : Flat PlanPair) (es : List (ℕ × Flat PlanPair)) → IsNewest (at es) low None → IsNewest (at ((n, x) ∷ es)) low (one_above low (n, x))
none_in_tail low n Unknown es none = λ m gt p h. elim (eq_cases m n) [
  | inl s ↦ no_one p (sym (at_head (n, Unknown) es) ∙ ap (at ((n, Unknown) ∷ es)) (sym s) ∙ h)
  | inr other ↦ none m gt p (sym (at_tail (n, Unknown) es m other) ∙ h)
]
none_in_tail low n Clash es none = λ m gt p h. elim (eq_cases m n) [
  | inl s ↦ no_clash p (sym (at_head (n, Clash) es) ∙ ap (at ((n, Clash) ∷ es)) (sym s) ∙ h)
  | inr other ↦ none m gt p (sym (at_tail (n, Clash) es m other) ∙ h)
]
none_in_tail low n (One q) es none = elim (nat_lt low n) as (λ b. nat_lt low n ≡ b → IsNewest (at ((n, One q) ∷ es)) low (cond b (Some (n, q)) None)) [
  | true ↦ λ e. let lt : low < n = grind (arith, nat_tests) in
      (lt, at_head (n, One q) es, λ m gt p h. none m (omega arith) p (sym (at_tail (n, One q) es m (λ s. omega (arith, s))) ∙ h))
  | false ↦ λ e. λ m gt p h. none m gt p (sym (at_tail (n, One q) es m (λ s. let bad : ⊥ = grind (arith, nat_tests) in bad)) ∙ h)
] refl

step_newest : (low : ℕ) (e : ℕ × Flat PlanPair) (es : List (ℕ × Flat PlanPair)) (r : Option (ℕ × PlanPair)) → T (below_all nat_cmp e.0 es) → IsNewest (at es) low r → IsNewest (at (e ∷ es)) low (or_before r (one_above low e))
step_newest low e es None below none = none_in_tail low e.0 e.1 es none
step_newest low e es (Some (n, p)) below (gt, is, last) = elim (cases_lt e.0 n) [
  | inl lt ↦ (gt, at_tail e es n (λ s. omega (arith, s)) ∙ is, λ m above q h. last m above q (sym (at_tail e es m (λ s. omega (arith, s))) ∙ h))
  | inr ge ↦ absurd (no_one p (sym (at_below e.0 n es below ge) ∙ is))
]

newest_is : (low : ℕ) (es : List (ℕ × Flat PlanPair)) → T (is_sorted nat_cmp es) → IsNewest (at es) low (newest_in low es)
newest_is low [] sorted = λ n gt p. no_one p
newest_is low (e ∷ es) sorted = step_newest low e es (newest_in low es) (first _ _ sorted) (newest_is low es (second _ _ sorted))

pub newest_is_greatest : (b : BoardValue) (low : ℕ) → IsBoard b → IsNewest (issued b) low (newest_of b low)
newest_is_greatest b low is = newest_is low (issues_in b) is.nested.0.1.sorted

-- ---- as it is found from the end

before_none : (y : Option (ℕ × PlanPair)) (r : Option (ℕ × PlanPair)) → r ≡ None → or_before r y ≡ y
before_none y r e = ap (λ x. or_before x y) e

-- nothing at place i, and nothing after it
pub none_from : (low i : ℕ) (es : List (ℕ × Flat PlanPair)) (e : ℕ × Flat PlanPair) → i < length es → e ≡ get_or es i e → newest_in low (drop (i + 1) es) ≡ None → newest_in low (drop i es) ≡ one_above low e
none_from low i es e within is none = ap (newest_in low) (drop_at i es e within is) ∙ before_none (one_above low e) _ none
  where
    drop_at : (i : ℕ) (es : List (ℕ × Flat PlanPair)) (e : ℕ × Flat PlanPair) → i < length es → e ≡ get_or es i e → drop i es ≡ e ∷ drop (i + 1) es
    drop_at i es e within is = drop_more es i e within ∙ ap (λ x. x ∷ drop (i + 1) es) (sym is)

some_kept : (y r : Option (ℕ × PlanPair)) (x : ℕ × PlanPair) → r ≡ Some x → or_before r y ≡ Some x
some_kept y r x e = ap (λ z. or_before z y) e

-- what is found in the rest is found in the whole
pub found_from : (low i : ℕ) (es : List (ℕ × Flat PlanPair)) (x : ℕ × PlanPair) → newest_in low (drop i es) ≡ Some x → newest_in low es ≡ Some x
found_from low i [] x e = e_nil i e
  where
    e_nil : (i : ℕ) → newest_in low (drop i []) ≡ Some x → newest_in low [] ≡ Some x
    e_nil zero e = e
    e_nil (suc i) e = e
found_from low zero (e ∷ es) x is = is
found_from low (suc i) (e ∷ es) x is = some_kept (one_above low e) (newest_in low es) x (found_from low i es x is)

-- the first that is found from the end is the newest
pub found_newest : {X : Type 0} (f : X → ℕ × PlanPair) (low at i : ℕ) (es : List (ℕ × Flat PlanPair)) (e : ℕ × Flat PlanPair) (r : Option X) → at ≡ i + 1 → at ≤ length es → e ≡ get_or es i e → newest_in low (drop at es) ≡ None → option_map f r ≡ one_above low e → is_some r ≡ true → option_map f r ≡ newest_in low es
found_newest f low at i es e None next within is none found some = absurd (true≢false (sym some))
found_newest f low at i es e (Some x) next within is none found some =
    sym (found_from low i es (f x) (none_from low i es e (omega (arith, next, within)) is (ap (λ n. newest_in low (drop n es)) (sym next) ∙ none) ∙ sym found))
