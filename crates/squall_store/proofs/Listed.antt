-- Values of a span in a list.
use Rattle.std.proofs.Common.{◌≡◌, ℕ, ◌+◌, ◌<◌, ◌≤◌, true, false, List, [], ◌∷◌, ◌++◌, None, Some, refl, sym, subst, ◌∙◌, arith, inl, inr}
use Rattle.std.specs.Prelude.{◌≢◌}
use Rattle.std.specs.BTreeMap.{is_at}
use Rattle.std.specs.Ordering.{nat_cmp}
use Rattle.std.proofs.lemmas.Bool.{cases_lt, cases_Bool}
use Rattle.std.proofs.lemmas.Bool.Decides.{nat_tests}
use Rattle.squall_span.specs.Spans.{Interval, span_has}
use Rattle.squall_store.specs.Memory.{Values, value_at, IsEmptyFrom}

-- the list has the values from a bound on up to where the loop is, and is_not others
pub record IsListedTo (rows : Values) (lo at to : ℕ) (listed : Values) : Type 0 where
  pub after : lo ≤ at
  pub before : at ≤ to
  pub there : (k : ℕ) → lo ≤ k → k < at → value_at listed k ≡ value_at rows k
  pub below : (k : ℕ) → k < lo → value_at listed k ≡ None
  pub above : (k : ℕ) → at ≤ k → value_at listed k ≡ None

at_itself : (k : ℕ) → is_at (nat_cmp k) k ≡ true
at_itself k = grind (arith, nat_tests)

at_another : (k j : ℕ) → k ≢ j → is_at (nat_cmp k) j ≡ false
at_another k j other = grind (arith, nat_tests)

-- ---- one more value at the end

push_none : (listed : Values) (key k : ℕ) (v : List ℕ) → value_at listed k ≡ None → k ≢ key → value_at (listed ++ ((key, v) ∷ [])) k ≡ None
push_none [] key k v none other = let is_not = at_another k key other in rw is_not refl
push_none ((j, w) ∷ listed) key k v none other = elim (cases_Bool (is_at (nat_cmp k) j)) [
  | inl is_here ↦ let is_not : Some w ≡ None = rw is_here at none in absurd cc
  | inr is_not ↦ let rest : value_at listed k ≡ None = rw is_not at none in rw is_not (push_none listed key k v rest other)
]

push_here : (listed : Values) (key : ℕ) (v : List ℕ) → value_at listed key ≡ None → value_at (listed ++ ((key, v) ∷ [])) key ≡ Some v
push_here [] key v none = let is_here = at_itself key in rw is_here refl
push_here ((j, w) ∷ listed) key v none = elim (cases_Bool (is_at (nat_cmp key) j)) [
  | inl is_here ↦ let is_not : Some w ≡ None = rw is_here at none in absurd cc
  | inr is_not ↦ let rest : value_at listed key ≡ None = rw is_not at none in rw is_not (push_here listed key v rest)
]

push_other : (listed : Values) (key k : ℕ) (v : List ℕ) → k ≢ key → value_at (listed ++ ((key, v) ∷ [])) k ≡ value_at listed k
push_other [] key k v other = let is_not = at_another k key other in rw is_not refl
push_other ((j, w) ∷ listed) key k v other = elim (cases_Bool (is_at (nat_cmp k) j)) [
  | inl is_here ↦ rw is_here refl
  | inr is_not ↦ rw is_not (push_other listed key k v other)
]

pub starts : (rows : Values) (lo to : ℕ) → lo ≤ to → IsListedTo rows lo lo to []
starts rows lo to le = record { after = omega arith; before = le; there = λ k a b. absurd (omega arith); below = λ k lt. refl; above = λ k le. refl }

pub goes_on : (rows : Values) (lo at to key : ℕ) (v : List ℕ) (listed new : Values) → IsListedTo rows lo at to listed → at ≤ key → key < to → value_at rows key ≡ Some v
    → IsEmptyFrom rows at key → new ≡ listed ++ ((key, v) ∷ []) → IsListedTo rows lo (key + 1) to new
goes_on rows lo at to key v listed new is from within here empty e =
    subst (IsListedTo rows lo (key + 1) to) (sym e) (record {
      after = let a : lo ≤ at = is.after in omega arith;
      before = omega arith;
      there = λ k a b. elim (cases_lt k key) [
        | inl lt ↦ push_other listed key k v (λ same. absurd (omega arith)) ∙ elim (cases_lt k at) [
          | inl early ↦ is.there k a early
          | inr late ↦ is.above k late ∙ sym (empty k late lt)
        ]
        | inr le ↦ let same : k ≡ key = omega arith in
            subst (λ (j : ℕ). value_at (listed ++ ((key, v) ∷ [])) j ≡ value_at rows j) (sym same) (push_here listed key v (is.above key from) ∙ sym here)
      ];
      below = λ k lt. let a : lo ≤ at = is.after in push_none listed key k v (is.below k lt) (λ same. absurd (omega arith));
      above = λ k le. push_none listed key k v (is.above k (omega arith)) (λ same. absurd (omega arith));
    })

-- ---- all values of the span

in_span : (s : Interval) (k : ℕ) → span_has s k ≡ true → (s.lo ≤ k) × (k < s.hi)
in_span s k h = (grind (arith, nat_tests), grind (arith, nat_tests))

out_of_span : (s : Interval) (k : ℕ) → span_has s k ≡ false → s.lo ≤ k → s.hi ≤ k
out_of_span s k h le = grind (arith, nat_tests)

pub lists_inside : (rows listed : Values) (s : Interval) (at : ℕ) → IsListedTo rows s.lo at s.hi listed → IsEmptyFrom rows at s.hi → (k : ℕ) → span_has s k ≡ true
    → value_at listed k ≡ value_at rows k
lists_inside rows listed s at is empty k h = let within = in_span s k h in elim (cases_lt k at) [
  | inl early ↦ is.there k within.0 early
  | inr late ↦ is.above k late ∙ sym (empty k late within.1)
]

pub lists_outside : (rows listed : Values) (s : Interval) (at : ℕ) → IsListedTo rows s.lo at s.hi listed → (k : ℕ) → span_has s k ≡ false → value_at listed k ≡ None
lists_outside rows listed s at is k h = elim (cases_lt k s.lo) [
  | inl lt ↦ is.below k lt
  | inr le ↦ is.above k (let past : s.hi ≤ k = out_of_span s k h le in let b : at ≤ s.hi = is.before in omega arith)
]
