-- Items that are written one by one at the start of a room.
use Rattle.std.proofs.Common.{◌≡◌, ℕ, zero, suc, ◌<◌, ◌≤◌, min, List, [], ◌∷◌, length, take, drop, map, get_or, set, refl, sym, ap, ◌∙◌, arith, length-take-le, inl, inr}
use Rattle.std.proofs.lemmas.Bool.{cases_lt}
use Rattle.std.proofs.lemmas.List.{take_all, length-map}
use Rattle.squall_c_values.specs.Rooms.{over}

-- one more is written
pub written_more : {X Y : Type 0} → (f : X → Y) (ks : List X) (xs ys : List Y) (n : ℕ) (k d : X) (y : Y) → n < length ks → n < length xs → k ≡ get_or ks n d → y ≡ f k → ys ≡ over (take n (map f ks)) xs → set ys n y ≡ over (take (suc n) (map f ks)) xs
written_more f [] xs ys n k d y lt lt' is seen w = absurd (omega (arith, lt))
written_more f (j ∷ ks) [] ys n k d y lt lt' is seen w = absurd (omega (arith, lt'))
written_more f (j ∷ ks) (x ∷ xs) ys zero k d y lt lt' is seen w = ap (λ l. set l 0 y) w ∙ ap (λ i. i ∷ xs) seen ∙ ap (λ i. f i ∷ xs) is
written_more f (j ∷ ks) (x ∷ xs) ys (suc n) k d y lt lt' is seen w =
    ap (λ l. set l (suc n) y) w ∙ ap (λ l. f j ∷ l) (written_more f ks xs (over (take n (map f ks)) xs) n k d y (omega (arith, lt)) (omega (arith, lt')) is seen refl)

-- as many as there are, or as the room holds
pub taken_min : {X Y : Type 0} → (f : X → Y) (ks : List X) (xs : List Y) (n : ℕ) → n ≡ min (length ks) (length xs) → take n (map f ks) ≡ take (length xs) (map f ks)
taken_min f ks xs n e =
    let m = length-map ks f in
    elim (cases_lt (length ks) (length xs)) [
      | inl lt ↦ take_all n (map f ks) (omega (arith, m, e, lt)) ∙ sym (take_all (length xs) (map f ks) (omega (arith, m, lt)))
      | inr ge ↦ (let same : n ≡ length xs = omega (arith, e, ge) in ap (λ i. take i (map f ks)) same)
    ]

pub taken_count : {X Y : Type 0} → (f : X → Y) (ks : List X) (xs : List Y) (n : ℕ) → n ≡ min (length ks) (length xs) → n ≡ length (take (length xs) (map f ks))
taken_count f ks xs n e =
    let m = length-map ks f in
    elim (cases_lt (length ks) (length xs)) [
      | inl lt ↦ (let all = ap length (take_all (length xs) (map f ks) (omega (arith, m, lt))) in omega (arith, all, m, e, lt))
      | inr ge ↦ (let some = length-take-le (length xs) (map f ks) (omega (arith, m, ge)) in omega (arith, some, e, ge))
    ]

-- ---- items that come one by one

-- the next of the items from a place on
pub next_item : {X : Type 0} → (xs rest : List X) (n : ℕ) (x : X) → drop n xs ≡ x ∷ rest → (n < length xs) × ((d : X) → x ≡ get_or xs n d) × (drop (suc n) xs ≡ rest)
next_item [] rest zero x e = absurd cc
next_item [] rest (suc n) x e = absurd cc
next_item (y ∷ ys) rest zero x e = (omega arith, λ d. cc, cc)
next_item (y ∷ ys) rest (suc n) x e = let next = next_item ys rest n x e in (omega (arith, next.0), next.1, next.2)

pub no_item : {X : Type 0} → (xs : List X) (n : ℕ) → drop n xs ≡ [] → length xs ≤ n
no_item [] n e = omega arith
no_item (y ∷ ys) zero e = absurd cc
no_item (y ∷ ys) (suc n) e = let next = no_item ys n e in omega (arith, next)
