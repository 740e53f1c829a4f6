-- The legs among which a search looks.
use Rattle.std.proofs.Common.{◌≡◌, ℕ, zero, suc, ◌+◌, ◌-◌, ◌*◌, ◌<◌, ◌≤◌, List, [], ◌∷◌, length, get_or, refl, sym, ap, subst, ◌∙◌, arith, inl, inr}
use Rattle.std.proofs.lemmas.Bool.{cases_lt}
use Rattle.std.proofs.lemmas.List.{get_or_default}
use Rattle.squall_plan.specs.declared.range.PlanRange.{PlanRange}
use Rattle.squall_key.specs.Keys.{top}
use Rattle.squall_table.specs.Legs.{Legs, IsAt, IsAmong}
use Rattle.squall_table.proofs.Kept.{legs_next}
use Rattle.squall_table.proofs.Kept.{starts_rise}

pub among_all : (f : ℕ → ℕ) (k : ℕ) (ls : List PlanRange) → Legs f 0 top ls → IsAmong ls k 0 (length ls)
among_all f k [] t = absurd (omega (arith, t))
among_all f k (l ∷ ls) t = record {
  some = omega arith;
  within = omega arith;
  from = λ d. omega (arith, t.0);
  beyond = λ j d le lt. absurd (omega arith);
}

pub last_ends : (f : ℕ → ℕ) (a b : ℕ) (xs : List PlanRange) (i : ℕ) (d : PlanRange) → Legs f a b xs → suc i ≡ length xs → (get_or xs i d).span.hi ≡ b
last_ends f a b [] i d t e = absurd (omega arith)
last_ends f a b (x ∷ []) zero d t e = t.4
last_ends f a b (x ∷ y ∷ ys) zero d t e = absurd (omega arith)
last_ends f a b (x ∷ []) (suc i) d t e = absurd (omega arith)
last_ends f a b (x ∷ y ∷ ys) (suc i) d t e = last_ends f x.span.hi b (y ∷ ys) i d t.4 (omega arith)

pub among_one : (f : ℕ → ℕ) (k base : ℕ) (ls : List PlanRange) → Legs f 0 top ls → k < top → IsAmong ls k base 1 → IsAt ls k base
among_one f k base ls t lt m = record {
  within = omega (arith, m.within);
  from = m.from;
  below = λ d. elim (cases_lt (suc base) (length ls)) [
    | inl more ↦ let next = legs_next f 0 top ls base (suc base) d t refl more in let b = m.beyond (suc base) d (omega arith) more in omega (arith, next, b)
    | inr least ↦ let e = last_ends f 0 top ls base d t (omega (arith, m.within)) in omega (arith, e)
  ];
}

-- the legs from a place on, since the key is not before it
over : (ls : List PlanRange) (k base size s : ℕ) → IsAmong ls k base size → s < size → ((d : PlanRange) → (get_or ls (base + s) d).span.lo ≤ k) → IsAmong ls k (base + s) (size - s)
over ls k base size s m lt le = record {
  some = omega arith;
  within = omega (arith, m.within);
  from = le;
  beyond = λ j d h u. m.beyond j d (omega arith) u;
}

-- fewer legs, since the key is before a place
pub under : (f : ℕ → ℕ) (ls : List PlanRange) (k base size s n : ℕ) → Legs f 0 top ls → IsAmong ls k base size → 0 < s → s ≤ n → n ≤ size → ((d : PlanRange) → k < (get_or ls (base + s) d).span.lo) → IsAmong ls k base n
under f ls k base size s n t m pos le fits lt = record {
  some = omega arith;
  within = omega (arith, m.within);
  from = m.from;
  beyond = λ j d h u. let up = starts_rise f 0 top ls t (base + s) j d (omega arith) u in let b = lt d in omega (arith, up, b);
}

-- what a step back is
pub record Back (k step bound r : ℕ) : Type 0 where
  pub beyond : k < bound → r ≡ step
  pub before : bound ≤ k → r ≡ 0

-- the bound of the leg at a place
abbrev pub Starts : List PlanRange → ℕ → ℕ → Type 0
Starts ls i l = (d : PlanRange) → (get_or ls i d).span.lo ≡ l

pub half : (f : ℕ → ℕ) (ls : List PlanRange) (k base size step : ℕ) (l r : ℕ) → Legs f 0 top ls → IsAmong ls k base size → 0 < step → 2 * step ≤ size
    → Starts ls (base + step) l → Back k step l r → IsAmong ls k (base + step - r) (size - step)
half f ls k base size step l r t m pos parts s b = elim (cases_lt k l) [
  | inl lt ↦ let e : base ≡ base + step - r = omega (arith, b.beyond lt) in
      subst (λ n. IsAmong ls k n (size - step)) e (under f ls k base size step (size - step) t m pos (omega arith) (omega arith) (λ d. let e' = s d in omega (arith, e')))
  | inr ge ↦ let e : base + step ≡ base + step - r = omega (arith, b.before ge) in
      subst (λ n. IsAmong ls k n (size - step)) e (over ls k base size step m (omega arith) (λ d. let e' = s d in omega (arith, e')))
]

rise : (f : ℕ → ℕ) (ls : List PlanRange) (i j a b : ℕ) (d : PlanRange) → Legs f 0 top ls → i ≤ j → j < length ls → Starts ls i a → Starts ls j b → a ≤ b
rise f ls i j a b d t le lt s s' = let up = starts_rise f 0 top ls t i j d le lt in let p = s d in let q = s' d in omega (arith, up, p, q)

pub fewer : (ls : List PlanRange) (k base m n : ℕ) → m ≡ n → IsAmong ls k base m → IsAmong ls k base n
fewer ls k base m n e h = subst (λ x. IsAmong ls k base x) e h

pub third : (f : ℕ → ℕ) (ls : List PlanRange) (k base size step : ℕ) (l l' r r' : ℕ) (d : PlanRange) → Legs f 0 top ls → IsAmong ls k base size → 0 < step → 3 * step ≤ size
    → Starts ls (base + step) l → Starts ls (base + step + step) l' → Back k step l r → Back k step l' r' → IsAmong ls k (base + step + step - r - r') (size - 2 * step)
third f ls k base size step l l' r r' d t m pos parts s s' b b' =
    let up = rise f ls (base + step) (base + step + step) l l' d t (omega arith) (omega (arith, m.within)) s s' in
    elim (cases_lt k l) [
      | inl lt ↦ let e : base ≡ base + step + step - r - r' = omega (arith, b.beyond lt, b'.beyond (omega arith)) in
          subst (λ n. IsAmong ls k n (size - 2 * step)) e (under f ls k base size step (size - 2 * step) t m pos (omega arith) (omega arith) (λ d. let e' = s d in omega (arith, e')))
      | inr ge ↦
          let m' = over ls k base size step m (omega arith) (λ d. let e' = s d in omega (arith, e')) in
          let e : base + step + step - r - r' ≡ base + step + step - r' = omega (arith, b.before ge) in
          subst (λ n. IsAmong ls k n (size - 2 * step)) (sym e) (fewer ls k _ _ _ (omega arith) (half f ls k (base + step) (size - step) step l' r' t m' pos (omega arith) s' b'))
    ]

pub quarter : (f : ℕ → ℕ) (ls : List PlanRange) (k base size step : ℕ) (l l' l'' r r' r'' : ℕ) (d : PlanRange) → Legs f 0 top ls → IsAmong ls k base size → 0 < step → 4 * step ≤ size
    → Starts ls (base + step) l → Starts ls (base + step + step) l' → Starts ls (base + step + step + step) l'' → Back k step l r → Back k step l' r' → Back k step l'' r''
    → IsAmong ls k (base + step + step + step - r - r' - r'') (size - 3 * step)
quarter f ls k base size step l l' l'' r r' r'' d t m pos parts s s' s'' b b' b'' =
    let up = rise f ls (base + step) (base + step + step) l l' d t (omega arith) (omega (arith, m.within)) s s' in
    let up' = rise f ls (base + step + step) (base + step + step + step) l' l'' d t (omega arith) (omega (arith, m.within)) s' s'' in
    elim (cases_lt k l) [
      | inl lt ↦ let e : base ≡ base + step + step + step - r - r' - r'' = omega (arith, b.beyond lt, b'.beyond (omega arith), b''.beyond (omega arith)) in
          subst (λ n. IsAmong ls k n (size - 3 * step)) e (under f ls k base size step (size - 3 * step) t m pos (omega arith) (omega arith) (λ d. let e' = s d in omega (arith, e')))
      | inr ge ↦
          let m' = over ls k base size step m (omega arith) (λ d. let e' = s d in omega (arith, e')) in
          let e : base + step + step + step - r - r' - r'' ≡ base + step + step + step - r' - r'' = omega (arith, b.before ge) in
          subst (λ n. IsAmong ls k n (size - 3 * step)) (sym e) (fewer ls k _ _ _ (omega arith) (third f ls k (base + step) (size - step) step l' l'' r' r'' d t m' pos (omega arith) s' s'' b' b''))
    ]

pub starts_as : (ls : List PlanRange) (i : ℕ) (t : PlanRange) (l : ℕ) → i < length ls → t ≡ get_or ls i t → l ≡ (get_or ls i t).span.lo → Starts ls i l
starts_as ls i t l lt is e d = ap (λ l. l.span.lo) (get_or_default ls i d t lt) ∙ sym e

-- the same step back at an equal bound
pub back_at : (k step bound at r : ℕ) → bound ≡ at → Back k step bound r → Back k step at r
back_at k step bound at r e b = subst (λ x. Back k step x r) e b
