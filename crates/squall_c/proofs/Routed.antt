-- Partitions that are written one by one to the front of a room.
use Rattle.std.proofs.Common.{◌≡◌, ℕ, zero, suc, ◌+◌, ◌<◌, ◌≤◌, min, List, [], ◌∷◌, ◌++◌, length, take, map, get_or, set, refl, sym, ap, ◌∙◌, arith, length-take-le, inl, inr}
use Rattle.std.proofs.lemmas.Bool.{cases_lt}
use Rattle.std.proofs.lemmas.List.{take_all, length-map}
use Rattle.squall_c_values.specs.Rooms.{over}

-- one more is written
pub written_more : (f : ℕ → ℕ) (ks xs ys : List ℕ) (n : ℕ) (k : ℕ) → n < length ks → n < length xs → k ≡ get_or ks n k → ys ≡ over (take n (map f ks)) xs → set ys n (f k) ≡ over (take (suc n) (map f ks)) xs
written_more f [] xs ys n k lt lt' is w = absurd (omega (arith, lt))
written_more f (j ∷ ks) [] ys n k lt lt' is w = absurd (omega (arith, lt'))
written_more f (j ∷ ks) (x ∷ xs) ys zero k lt lt' is w = ap (λ l. set l 0 (f k)) w ∙ ap (λ i. f i ∷ xs) is
written_more f (j ∷ ks) (x ∷ xs) ys (suc n) k lt lt' is w =
    ap (λ l. set l (suc n) (f k)) w ∙ ap (λ l. f j ∷ l) (written_more f ks xs (over (take n (map f ks)) xs) n k (omega (arith, lt)) (omega (arith, lt')) is refl)

pub none_written : (f : ℕ → ℕ) (ks xs : List ℕ) → xs ≡ over (take 0 (map f ks)) xs
none_written f ks xs = refl

-- as many as there are, or as the room holds
pub taken_min : (f : ℕ → ℕ) (ks xs : List ℕ) (n : ℕ) → n ≡ min (length ks) (length xs) → take n (map f ks) ≡ take (length xs) (map f ks)
taken_min f ks xs n e =
    let m = length-map ks f in
    elim (cases_lt (length ks) (length xs)) [
      | inl lt ↦ take_all n (map f ks) (omega (arith, m, e, lt)) ∙ sym (take_all (length xs) (map f ks) (omega (arith, m, lt)))
      | inr ge ↦ (let same : n ≡ length xs = omega (arith, e, ge) in ap (λ i. take i (map f ks)) same)
    ]

pub taken_count : (f : ℕ → ℕ) (ks xs : List ℕ) (n : ℕ) → n ≡ min (length ks) (length xs) → n ≡ length (take (length xs) (map f ks))
taken_count f ks xs n e =
    let m = length-map ks f in
    elim (cases_lt (length ks) (length xs)) [
      | inl lt ↦ (let all = ap length (take_all (length xs) (map f ks) (omega (arith, m, lt))) in omega (arith, all, m, e, lt))
      | inr ge ↦ (let some = length-take-le (length xs) (map f ks) (omega (arith, m, ge)) in omega (arith, some, e, ge))
    ]
