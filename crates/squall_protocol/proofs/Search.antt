-- Searches below a bound: the least number, the greatest, and the first keys.
use Rattle.std.proofs.Common.{◌≡◌, ◌⊎◌, ℕ, zero, suc, ◌+◌, ◌<◌, ◌≤◌, Bool, true, false, refl, subst, inl, inr, arith, le_refl}
use Rattle.std.proofs.lemmas.Bool.{cases_Bool, cases_lt, both_ways, false_from_ne_true}
use Rattle.squall_span.specs.Spans.{Interval, interval}
use Rattle.squall_protocol.specs.Firsts.{AreFirst, IsRun, IsGreatest}

-- it holds, or it does not
abbrev pub Decided : Type 0 → Type 0
Decided P = P ⊎ (P → ⊥)

pub decided_test : (b : Bool) → Decided (b ≡ true)
decided_test b = elim (cases_Bool b) [
  | inl is ↦ inl is
  | inr not ↦ inr (λ is. both_ways b not is)
]

pub decided_both : (P Q : Type 0) → Decided P → Decided Q → Decided (P × Q)
decided_both P Q (inl p) (inl q) = inl (p, q)
decided_both P Q (inl p) (inr never) = inr (λ h. never h.1)
decided_both P Q (inr never) q = inr (λ h. never h.0)

pub decided_if : (P Q : Type 0) → Decided P → Decided Q → Decided (P → Q)
decided_if P Q p (inl q) = inl (λ _. q)
decided_if P Q (inl p) (inr never) = inr (λ h. never (h p))
decided_if P Q (inr never) (inr q) = inl (λ p. absurd (never p))

-- ---- the least number

-- the least number below the bound of which it holds
pub record LeastBelow (P : ℕ → Type 0) (n : ℕ) : Type 0 where
  pub at : ℕ
  pub below : at < n
  pub holds : P at
  pub least : (j : ℕ) → j < at → P j → ⊥

-- it holds of no number below the bound
abbrev pub NoneBelow : (ℕ → Type 0) → ℕ → Type 0
NoneBelow P n = (j : ℕ) → j < n → P j → ⊥

none_up_to : (P : ℕ → Type 0) (n : ℕ) → NoneBelow P n → (P n → ⊥) → NoneBelow P (suc n)
none_up_to P n none never j lt p = elim (cases_lt j n) [
  | inl below ↦ none j below p
  | inr ge ↦ let e : j ≡ n = omega arith in never (subst P e p)
]

pub least_below : (P : ℕ → Type 0) → ((j : ℕ) → Decided (P j)) → (n : ℕ) → LeastBelow P n ⊎ NoneBelow P n
least_below P d zero = inr (λ j lt p. let bad : ⊥ = omega arith in bad)
least_below P d (suc n) = elim (least_below P d n) [
  | inl f ↦ let b : f.at < n = f.below in inl (record { at = f.at; below = omega arith; holds = f.holds; least = f.least })
  | inr none ↦ elim (d n) [
    | inl p ↦ inl (record { at = n; below = omega arith; holds = p; least = none })
    | inr never ↦ inr (none_up_to P n none never)
  ]
]

-- whether it holds of all numbers below the bound
pub all_below : (P : ℕ → Type 0) → ((j : ℕ) → Decided (P j)) → (n : ℕ) → Decided ((j : ℕ) → j < n → P j)
all_below P d n = elim (least_below (λ j. P j → ⊥) (λ j. decided_if (P j) ⊥ (d j) (inr (λ x. x))) n) [
  | inl f ↦ inr (λ all. f.holds (all f.at f.below))
  | inr none ↦ inl (λ j lt. elim (d j) [ inl p ↦ p | inr never ↦ absurd (none j lt never) ])
]

-- the least key for which the test is true, if it is true for no key from the bound on
abbrev pub LeastTrue : (ℕ → Bool) → Type 0
LeastTrue test = (k : ℕ) × (test k ≡ true) × ((j : ℕ) → test j ≡ true → k ≤ j)

pub least_true : (test : ℕ → Bool) (n : ℕ) → ((k : ℕ) → test k ≡ true → k < n) → LeastTrue test ⊎ ((k : ℕ) → test k ≡ false)
least_true test n high = elim (least_below (λ k. test k ≡ true) (λ k. decided_test (test k)) n) [
  | inl f ↦ inl (f.at, f.holds, λ j is. elim (cases_lt j f.at) [ inl less ↦ absurd (f.least j less is) | inr le ↦ le ])
  | inr none ↦ inr (λ k. false_from_ne_true (test k) (λ is. none k (high k is) is))
]

-- ---- the greatest number

pub some_greatest : (R : ℕ → Type 0) → ((n : ℕ) → Decided (R n)) → (most : ℕ) → ((n : ℕ) → R n → n ≤ most) → (g : ℕ) × IsGreatest R g
some_greatest R d zero high = (0, record { top = high; reached = inl refl })
some_greatest R d (suc most) high = elim (d (suc most)) [
  | inl r ↦ (suc most, record { top = high; reached = inr r })
  | inr never ↦ some_greatest R d most (λ n r. lower n r (high n r) never)
]
  where
    lower : (n : ℕ) → R n → n ≤ suc most → (R (suc most) → ⊥) → n ≤ most
    lower n r le never = elim (cases_lt most n) [
      | inl more ↦ let e : n ≡ suc most = omega arith in absurd (never (subst R e r))
      | inr le ↦ le
    ]

-- ---- the first keys

-- the test is true from one key on up to another, which is at most so many keys further than a third
record Reach (test : ℕ → Bool) (lo at more : ℕ) : Type 0 where
  hi : ℕ
  from : at ≤ hi
  few : hi ≤ at + more
  keys : (k : ℕ) → lo ≤ k → k < hi → test k ≡ true
  whole : (hi ≡ at + more) ⊎ (test hi ≡ false)

reach : (test : ℕ → Bool) (lo at more : ℕ) → ((k : ℕ) → lo ≤ k → k < at → test k ≡ true) → Reach test lo at more
reach test lo at zero keys = record { hi = at; from = le_refl at; few = omega arith; keys = keys; whole = inl (omega arith) }
reach test lo at (suc more) keys = elim (cases_Bool (test at)) [
  | inl is ↦
      let r = reach test lo (suc at) more (λ k ge lt. elim (cases_lt k at) [
        | inl less ↦ keys k ge less
        | inr le ↦ let e : at ≡ k = omega arith in subst (λ j. test j ≡ true) e is
      ]) in
      let from : suc at ≤ r.hi = r.from in
      let few : r.hi ≤ suc at + more = r.few in
      record { hi = r.hi; from = omega arith; few = omega arith; keys = r.keys; whole = elim r.whole [ inl all ↦ inl (omega (arith, all)) | inr none ↦ inr none ] }
  | inr not ↦ record { hi = at; from = le_refl at; few = omega arith; keys = keys; whole = inr not }
]

-- the least key alone
only : (test : ℕ → Bool) (lo : ℕ) → test lo ≡ true → (k : ℕ) → lo ≤ k → k < suc lo → test k ≡ true
only test lo is k ge lt = let e : lo ≡ k = omega arith in subst (λ j. test j ≡ true) e is

-- if one key is asked for, and the test is true for one, there are first keys
pub some_first : (test : ℕ → Bool) (most : ℕ) (f : LeastTrue test) → (s : Interval) × AreFirst test (suc most) s × (s.lo ≡ f.0)
some_first test most f =
    let r = reach test f.0 (suc f.0) most (only test f.0 f.1) in
    let from : suc f.0 ≤ r.hi = r.from in
    let few : r.hi ≤ suc f.0 + most = r.few in
    (interval f.0 r.hi, record { some = omega arith; keys = r.keys; least = f.2; few = omega arith; whole = elim r.whole [ inl all ↦ inl (omega (arith, all)) | inr none ↦ inr none ] }, refl)

-- there is a longest run from the least key on, if the test is true for no key from a bound on
pub some_run : (test : ℕ → Bool) (n : ℕ) → ((k : ℕ) → test k ≡ true → k < n) → LeastTrue test → (s : Interval) × IsRun test s
some_run test n high f =
    let r = reach test f.0 (suc f.0) n (only test f.0 f.1) in
    let from : suc f.0 ≤ r.hi = r.from in
    (interval f.0 r.hi, record { some = omega arith; keys = r.keys; least = f.2; longest = elim r.whole [ inl all ↦ beyond r.hi all | inr none ↦ none ] })
  where
    beyond : (hi : ℕ) → hi ≡ suc f.0 + n → test hi ≡ false
    beyond hi all = false_from_ne_true (test hi) (λ is. let lt : hi < n = high hi is in omega arith)
