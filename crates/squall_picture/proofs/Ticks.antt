-- Bounds that do not decrease: a search finds how many lie below one, and an insert there keeps their order.
use Rattle.std.proofs.Common.{◌≡◌, ℕ, ◌+◌, ◌<◌, ◌≤◌, zero, suc, Bool, true, false, cond, List, [], ◌∷◌, length, get_or, ltb, ap, arith}
use Rattle.std.specs.List.{count_by}
use Rattle.std.specs.List.Sorted.{IsNonDecreasing}
use Rattle.std.proofs.lemmas.Bool.Decides.{nat_tests}
use Rattle.std.proofs.lemmas.List.Sums.{sum_by-cons}

one_more : (p : ℕ → Bool) (x : ℕ) (xs : List ℕ) → count_by p (x ∷ xs) ≡ cond (p x) 1 0 + count_by p xs
one_more p x xs = sum_by-cons (λ y. cond (p y) 1 0) x xs

-- the first so many pass the test, and no others do
pub count_split : (p : ℕ → Bool) (xs : List ℕ) (n : ℕ) → n ≤ length xs → ((j d : ℕ) → j < n → p (get_or xs j d) ≡ true) → ((j d : ℕ) → n ≤ j → j < length xs → p (get_or xs j d) ≡ false)
    → n ≡ count_by p xs
count_split p [] n le all none = omega arith
count_split p (x ∷ xs) zero le all none =
    let rest = count_split p xs zero (omega arith) (λ j d lt. absurd (omega arith)) (λ j d ge lt. none (suc j) d (omega arith) (omega arith)) in
    let first = ap (λ b. cond b 1 0 + count_by p xs) (none zero 0 (omega arith) (omega arith)) in
    omega (arith, rest, first, one_more p x xs)
count_split p (x ∷ xs) (suc n) le all none =
    let rest = count_split p xs n (omega arith) (λ j d lt. all (suc j) d (omega arith)) (λ j d ge lt. none (suc j) d (omega arith) (omega arith)) in
    let first = ap (λ b. cond b 1 0 + count_by p xs) (all zero 0 (omega arith)) in
    omega (arith, rest, first, one_more p x xs)

pub is_below : (t b : ℕ) → ltb t b ≡ true → t ≤ b
is_below t b is = grind (arith, nat_tests)

pub not_below : (t b : ℕ) → ltb t b ≡ false → b ≤ t
not_below t b not = grind (arith, nat_tests)
