-- Laws of legs: from one bound to another a route has one list of them (this project).
use Rattle.std.specs.Prelude.{◌≡◌, ◌≢◌, ℕ, zero, suc, ◌+◌, ◌<◌, ◌≤◌, List, [], ◌∷◌, ◌++◌, length, refl}
use Rattle.std.proofs.Common.{get_or, set, sym, subst, ◌∙◌, arith, inl, inr}
use Rattle.std.proofs.lemmas.Bool.{cases_lt}
use Rattle.squall_key.specs.Keys.{top, part_limit}
use Rattle.squall_plan.specs.declared.range.PlanRange.{PlanRange}
use Rattle.squall_plan.specs.Ranges.{owner_of, IsTiling, Differ, DifferFrom, IsCanonical, AreRanges}
use Rattle.squall_plan.specs.PlanLaws.{owner_first, owner_later, differ_rest}
use Rattle.squall_table.specs.Tables.{AreLegs, leg_of}
use Rattle.squall_table.specs.Legs.{Differs, Legs, Grows}

pub legs_up : (f : ℕ → ℕ) (a b : ℕ) (xs : List PlanRange) → Legs f a b xs → a ≤ b
legs_up f a b [] l = omega (arith, l)
legs_up f a b (x ∷ xs) l = let rest = legs_up f x.span.hi b xs l.4 in omega (arith, l.0, l.1, rest)

-- the last leg takes up the keys to hi
pub legs_widen : (f : ℕ → ℕ) (a lo hi part : ℕ) (xs : List PlanRange) (n : ℕ) (d : PlanRange) → length xs ≡ suc n → Legs f a lo xs → lo ≤ hi → (get_or xs n d).part ≡ part → ((k : ℕ) → lo ≤ k → k < hi → f k ≡ part) → Legs f a hi (set xs n (leg_of (get_or xs n d).span.lo hi part))
legs_widen f a lo hi part [] n d e l le same is = absurd (omega arith)
legs_widen f a lo hi part (x ∷ []) zero d e l le same is = (
  l.0,
  omega (arith, l.1, l.4),
  (λ k from below. elim (cases_lt k lo) [
    | inl lt ↦ l.2 k from (omega (arith, l.4)) ∙ same
    | inr ge ↦ is k ge below
  ]),
  tt,
  refl,
)
legs_widen f a lo hi part (x ∷ []) (suc n) d e l le same is = absurd (omega arith)
legs_widen f a lo hi part (x ∷ y ∷ ys) zero d e l le same is = absurd (omega arith)
legs_widen f a lo hi part (x ∷ y ∷ ys) (suc n) d e l le same is =
    (l.0, l.1, l.2, differs ys n (omega arith) same l.3, legs_widen f x.span.hi lo hi part (y ∷ ys) n d (omega arith) l.4 le same is)
  where
    differs : (ys : List PlanRange) (n : ℕ) → length (y ∷ ys) ≡ suc n → (get_or (y ∷ ys) n d).part ≡ part → x.part ≢ y.part → Differs x.part (set (y ∷ ys) n (leg_of (get_or (y ∷ ys) n d).span.lo hi part))
    differs ys zero e s ne = λ h. ne (h ∙ sym s)
    differs ys (suc n) e s ne = ne

-- legs after legs
pub legs_append : (f : ℕ → ℕ) (a b c : ℕ) (xs ys : List PlanRange) → Legs f a b xs → Legs f b c ys → ((k : ℕ) → a ≤ k → k + 1 ≡ b → b < c → f k ≢ f b) → Legs f a c (xs ++ ys)
legs_append f a b c [] ys l m ne = subst (λ (x : ℕ). Legs f x c ys) (sym l) m
legs_append f a b c (x ∷ []) ys l m ne =
    (l.0, l.1, l.2, differs ys m, subst (λ (z : ℕ). Legs f z c ys) (sym l.4) m)
  where
    differs : (ys : List PlanRange) → Legs f b c ys → Differs x.part ys
    differs [] m = tt
    differs (y ∷ ys) m = λ h.
        let up = legs_up f y.span.hi c ys m.4 in
        let k-is : (k : ℕ) × (k + 1 ≡ x.span.hi) × (x.span.lo ≤ k) = pred x.span.hi x.span.lo l.1 in
        let p : f k-is.0 ≡ x.part = l.2 k-is.0 k-is.2 (omega (arith, k-is.1)) in
        let q : f b ≡ y.part = m.2 b (omega (arith, m.0)) (omega (arith, m.0, m.1)) in
        ne k-is.0 (omega (arith, l.0, k-is.2)) (k-is.1 ∙ l.4) (omega (arith, m.0, m.1, up)) (p ∙ h ∙ sym q)
      where
        pred : (n m : ℕ) → m < n → (k : ℕ) × (k + 1 ≡ n) × (m ≤ k)
        pred zero m lt = absurd (omega arith)
        pred (suc n) m lt = (n, omega arith, omega arith)
legs_append f a b c (x ∷ y ∷ zs) ys l m ne =
    (l.0, l.1, l.2, l.3, legs_append f x.span.hi b c (y ∷ zs) ys l.4 m (λ k from e lt. ne k (omega (arith, l.0, l.1, from)) e lt))

-- a leg of another partition than the last
pub legs_push : (f : ℕ → ℕ) (a lo hi part : ℕ) (xs : List PlanRange) → Legs f a lo xs → lo < hi → ((n : ℕ) (d : PlanRange) → length xs ≡ suc n → (get_or xs n d).part ≢ part) → ((k : ℕ) → lo ≤ k → k < hi → f k ≡ part) → Legs f a hi (xs ++ (leg_of lo hi part ∷ []))
legs_push f a lo hi part [] l lt ne is = (sym l, lt, is, tt, refl)
legs_push f a lo hi part (x ∷ []) l lt ne is = (l.0, l.1, l.2, ne 0 x refl, (sym l.4, lt, is, tt, refl))
legs_push f a lo hi part (x ∷ y ∷ ys) l lt ne is = (l.0, l.1, l.2, l.3, legs_push f x.span.hi lo hi part (y ∷ ys) l.4 lt (λ n d e. ne (suc n) d (omega arith)) is)

pub grows_none : (g : ℕ → ℕ) (lo hi : ℕ) (xs : List PlanRange) → lo ≡ hi → Grows g lo hi xs xs
grows_none g lo hi xs e f from is l = subst (λ (x : ℕ). Legs f from x xs) e l

pub grows_more : (g : ℕ → ℕ) (a b c : ℕ) (xs ys zs : List PlanRange) → a ≤ b → b ≤ c → Grows g a b xs ys → Grows g b c ys zs → Grows g a c xs zs
grows_more g a b c xs ys zs le le' p q f from is l = q f from (λ k u v. is k (omega arith) v) (p f from (λ k u v. is k u (omega arith)) l)

pub grows_as : (g h : ℕ → ℕ) (a b : ℕ) (xs ys : List PlanRange) → ((k : ℕ) → a ≤ k → k < b → g k ≡ h k) → Grows g a b xs ys → Grows h a b xs ys
grows_as g h a b xs ys same p f from is l = p f from (λ k u v. is k u v ∙ sym (same k u v)) l

-- two tables of the same routes are one list
same_leg : (l m : PlanRange) → l.span.lo ≡ m.span.lo → l.span.hi ≡ m.span.hi → l.part ≡ m.part → l ≡ m
same_leg l m p q r = λ i. leg_of (p i) (q i) (r i)

-- the first leg of one can't end before that of the other
ends_first : (f : ℕ → ℕ) (a b : ℕ) (x y : PlanRange) (xs ys : List PlanRange) → Legs f a b (x ∷ xs) → Legs f a b (y ∷ ys) → x.span.hi < y.span.hi → ⊥
ends_first f a b x y [] ys l m lt = let up = legs_up f y.span.hi b ys m.4 in omega (arith, l.4, up)
ends_first f a b x y (z ∷ zs) ys l m lt =
    let p : f x.span.lo ≡ x.part = l.2 x.span.lo (omega arith) l.1 in
    let q : f z.span.lo ≡ z.part = l.4.2 z.span.lo (omega arith) l.4.1 in
    let r : f x.span.lo ≡ y.part = m.2 x.span.lo (omega (arith, l.0, m.0)) (omega (arith, l.0, m.0, m.1, l.1)) in
    let s : f z.span.lo ≡ y.part = m.2 z.span.lo (omega (arith, l.0, l.1, m.0, l.4.0)) (omega (arith, l.4.0)) in
    l.3 (sym p ∙ r ∙ sym s ∙ q)

pub same_legs : (f : ℕ → ℕ) (a b : ℕ) (xs ys : List PlanRange) → Legs f a b xs → Legs f a b ys → xs ≡ ys
same_legs f a b [] [] l m = refl
same_legs f a b [] (y ∷ ys) l m = let up = legs_up f y.span.hi b ys m.4 in absurd (omega (arith, l, m.0, m.1, up))
same_legs f a b (x ∷ xs) [] l m = let up = legs_up f x.span.hi b xs l.4 in absurd (omega (arith, m, l.0, l.1, up))
same_legs f a b (x ∷ xs) (y ∷ ys) l m =
    elim (cases_lt x.span.hi y.span.hi) [
      | inl lt ↦ absurd (ends_first f a b x y xs ys l m lt)
      | inr ge ↦ elim (cases_lt y.span.hi x.span.hi) [
        | inl lt ↦ absurd (ends_first f a b y x ys xs m l lt)
        | inr le ↦
            let los : x.span.lo ≡ y.span.lo = l.0 ∙ sym m.0 in
            let his : x.span.hi ≡ y.span.hi = omega arith in
            let p : f x.span.lo ≡ x.part = l.2 x.span.lo (omega arith) l.1 in
            let q : f x.span.lo ≡ y.part = m.2 x.span.lo (omega (arith, los)) (omega (arith, l.1, his)) in
            let rest = same_legs f x.span.hi b xs ys l.4 (subst (λ (z : ℕ). Legs f z b ys) (sym his) m.4) in
            λ i. same_leg x y los his (sym p ∙ q) i ∷ rest i
      ]
    ]

-- the leg at a place
pub record LegAt (f : ℕ → ℕ) (a b : ℕ) (l : PlanRange) : Type 0 where
  pub from : a ≤ l.span.lo
  pub full : l.span.lo < l.span.hi
  pub to : l.span.hi ≤ b
  pub routes : (k : ℕ) → l.span.lo ≤ k → k < l.span.hi → f k ≡ l.part

pub legs_at : (f : ℕ → ℕ) (a b : ℕ) (xs : List PlanRange) (i : ℕ) (d : PlanRange) → Legs f a b xs → i < length xs → LegAt f a b (get_or xs i d)
legs_at f a b [] i d t lt = absurd (omega arith)
legs_at f a b (x ∷ xs) zero d t lt = record { from = omega (arith, t.0); full = t.1; to = legs_up f x.span.hi b xs t.4; routes = t.2 }
legs_at f a b (x ∷ xs) (suc i) d t lt = let r = legs_at f x.span.hi b xs i d t.4 (omega arith) in
    record { from = omega (arith, t.0, t.1, r.from); full = r.full; to = r.to; routes = r.routes }

pub legs_as : (f g : ℕ → ℕ) (a b : ℕ) (xs : List PlanRange) → ((k : ℕ) → a ≤ k → k < b → g k ≡ f k) → Legs f a b xs → Legs g a b xs
legs_as f g a b [] same t = t
legs_as f g a b (x ∷ xs) same t =
    let up = legs_up f x.span.hi b xs t.4 in
    (t.0, t.1, (λ k from below. same k (omega (arith, t.0)) (omega (arith, up)) ∙ t.2 k from below), t.3, legs_as f g x.span.hi b xs (λ k from below. same k (omega (arith, t.0, t.1)) below) t.4)

-- ---- the two ways to say it

pub owner_is : (f : ℕ → ℕ) (a b k : ℕ) (xs : List PlanRange) → Legs f a b xs → a ≤ k → k < b → owner_of xs k ≡ f k
owner_is f a b k [] t le lt = absurd (omega (arith, t))
owner_is f a b k (x ∷ xs) t le lt = elim (cases_lt k x.span.hi) [
  | inl below ↦ owner_first k x xs (omega (arith, t.0)) below ∙ sym (t.2 k (omega (arith, t.0)) below)
  | inr past ↦ owner_later k x xs past ∙ owner_is f x.span.hi b k xs t.4 past lt
]

-- ranges that touch, neighbours of different partitions, are the legs of their own owners
pub own_legs : (a b : ℕ) (xs : List PlanRange) → IsTiling a b xs → Differ xs → Legs (owner_of xs) a b xs
own_legs a b [] t d = t
own_legs a b (x ∷ xs) t d = (
  t.0,
  t.1,
  (λ k from below. owner_first k x xs from below),
  differs xs d,
  legs_as (owner_of xs) (owner_of (x ∷ xs)) x.span.hi b xs (λ k from below. owner_later k x xs from) (own_legs x.span.hi b xs t.2 (differ_rest x xs d)),
)
  where
    differs : (xs : List PlanRange) → DifferFrom x xs → Differs x.part xs
    differs [] d = tt
    differs (y ∷ ys) d = d.0

pub canonical_legs : (xs : List PlanRange) → IsCanonical xs → Legs (owner_of xs) 0 top xs
canonical_legs xs c = own_legs 0 top xs c.tiles c.differ

legs_tile : (f : ℕ → ℕ) (a b : ℕ) (xs : List PlanRange) → Legs f a b xs → IsTiling a b xs
legs_tile f a b [] t = t
legs_tile f a b (x ∷ xs) t = (t.0, t.1, legs_tile f x.span.hi b xs t.4)

legs_differ : (f : ℕ → ℕ) (a b : ℕ) (xs : List PlanRange) → Legs f a b xs → Differ xs
legs_differ f a b [] t = tt
legs_differ f a b (x ∷ xs) t = from xs t.3 (legs_differ f x.span.hi b xs t.4)
  where
    from : (ys : List PlanRange) → Differs x.part ys → Differ ys → DifferFrom x ys
    from [] d rest = tt
    from (y ∷ ys) d rest = (d, rest)

pub canonical_of_legs : (f : ℕ → ℕ) (xs : List PlanRange) → Legs f 0 top xs → IsCanonical xs
canonical_of_legs f xs l = record { tiles = legs_tile f 0 top xs l; differ = legs_differ f 0 top xs l }

pub are_legs : (f : ℕ → ℕ) (a b : ℕ) (xs : List PlanRange) → Legs f a b xs → AreLegs f a b xs
are_legs f a b xs l = record { tiles = legs_tile f a b xs l; differ = legs_differ f a b xs l; routes = λ k from below. owner_is f a b k xs l from below }

pub legs_are : (f : ℕ → ℕ) (a b : ℕ) (xs : List PlanRange) → AreLegs f a b xs → Legs f a b xs
legs_are f a b xs l = legs_as (owner_of xs) f a b xs (λ k from below. sym (l.routes k from below)) (own_legs a b xs l.tiles l.differ)

-- legs of partitions that there can be, up to the top, are ranges
pub legs_are_ranges : (f : ℕ → ℕ) (a b : ℕ) (xs : List PlanRange) → ((k : ℕ) → f k < part_limit) → b ≤ top → Legs f a b xs → AreRanges xs
legs_are_ranges f a b [] low high l = tt
legs_are_ranges f a b (x ∷ xs) low high l = (
  (l.1, omega (arith, high, legs_up f x.span.hi b xs l.4), subst (λ p. p < part_limit) (l.2 x.span.lo (omega arith) l.1) (low x.span.lo)),
  legs_are_ranges f x.span.hi b xs low high l.4,
)

-- ---- lists that grow

pub grown : (g : ℕ → ℕ) (lo hi : ℕ) (old new : List PlanRange) → old ≡ [] → Grows g lo hi old new → Legs g lo hi new
grown g lo hi old new e p = p g lo (λ k from below. refl) (subst (Legs g lo lo) (sym e) refl)
