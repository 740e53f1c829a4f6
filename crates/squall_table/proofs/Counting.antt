-- How many of a list pass a test, between two places.
use Rattle.std.proofs.Common.{◌≡◌, ℕ, zero, suc, ◌+◌, ◌-◌, ◌<◌, ◌≤◌, Bool, true, false, List, length, get_or, take, refl, sym, ap, ◌∙◌, arith, add-zero}
use Rattle.std.specs.List.{count_by}
use Rattle.std.proofs.lemmas.List.Sums.{count_by_more_no, count_by_more_yes}

count_yes : {X : Type 0} (p : X → Bool) (xs : List X) (a n : ℕ) (d : X) → a + n ≤ length xs → ((j : ℕ) → a ≤ j → j < a + n → p (get_or xs j d) ≡ true) → count_by p (take (a + n) xs) ≡ count_by p (take a xs) + n
count_yes p xs a zero d w is = let e : a + 0 ≡ a = omega arith in ap (λ i. count_by p (take i xs)) e ∙ omega arith
count_yes p xs a (suc n) d w is =
    let before = count_yes p xs a n d (omega arith) (λ j u v. is j u (omega arith)) in
    let one = count_by_more_yes p xs (a + n) d (omega arith) (is (a + n) (omega arith) (omega arith)) in
    let e : a + n + 1 ≡ a + suc n = omega arith in
    ap (λ i. count_by p (take i xs)) (sym e) ∙ one ∙ omega (arith, before)

count_no : {X : Type 0} (p : X → Bool) (xs : List X) (a n : ℕ) (d : X) → a + n ≤ length xs → ((j : ℕ) → a ≤ j → j < a + n → p (get_or xs j d) ≡ false) → count_by p (take (a + n) xs) ≡ count_by p (take a xs)
count_no p xs a zero d w is = rw add-zero refl
count_no p xs a (suc n) d w is =
    let before = count_no p xs a n d (omega arith) (λ j u v. is j u (omega arith)) in
    let one = count_by_more_no p xs (a + n) d (omega arith) (is (a + n) (omega arith) (omega arith)) in
    let e : a + n + 1 ≡ a + suc n = omega arith in
    ap (λ i. count_by p (take i xs)) (sym e) ∙ one ∙ before

-- if each from one place to another passes, or none
pub count_all : {X : Type 0} (p : X → Bool) (xs : List X) (a b : ℕ) (d : X) → a ≤ b → b ≤ length xs → ((j : ℕ) → a ≤ j → j < b → p (get_or xs j d) ≡ true) → count_by p (take b xs) ≡ count_by p (take a xs) + (b - a)
count_all p xs a b d le w is =
    let e : a + (b - a) ≡ b = omega arith in
    ap (λ i. count_by p (take i xs)) (sym e) ∙ count_yes p xs a (b - a) d (omega arith) (λ j u v. is j u (omega arith))

pub count_none : {X : Type 0} (p : X → Bool) (xs : List X) (a b : ℕ) (d : X) → a ≤ b → b ≤ length xs → ((j : ℕ) → a ≤ j → j < b → p (get_or xs j d) ≡ false) → count_by p (take b xs) ≡ count_by p (take a xs)
count_none p xs a b d le w is =
    let e : a + (b - a) ≡ b = omega arith in
    ap (λ i. count_by p (take i xs)) (sym e) ∙ count_no p xs a (b - a) d (omega arith) (λ j u v. is j u (omega arith))
