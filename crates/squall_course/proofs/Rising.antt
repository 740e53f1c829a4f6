-- Lists of numbers that rise.
use Rattle.std.proofs.Common.{◌≡◌, ℕ, zero, suc, ◌+◌, ◌-◌, ◌<◌, ◌≤◌, Bool, true, false, cond, eqb, ltb, List, [], ◌∷◌, length, get_or, refl, sym, ap, ◌∙◌, arith, inl, inr}
use Rattle.std.specs.Prelude.{filter, ◌≢◌}
use Rattle.std.specs.List.{list_any, range_with_len, position_or_len, prefix_len, Contains}
use Rattle.std.proofs.lemmas.List.Folds.{list_any_at, Any-from_list_any}
use Rattle.squall_course.specs.Steps.{Up}
use Rattle.std.proofs.lemmas.Bool.{cases_Bool, cases_lt, cases_eq, cases_order, ne_eqb, eq-eqb, eqb-true, lt-ltb, le-ltb, false≢true}

abbrev pub is_in : ℕ → List ℕ → Bool
is_in q xs = list_any (λ x. eqb x q) xs

pub eq_refl : (n : ℕ) → eqb n n ≡ true
eq_refl n = eq-eqb n n refl

pub up_weaker : (a b : ℕ) (xs : List ℕ) → b ≤ a → Up a xs → Up b xs
up_weaker a b [] le u = tt
up_weaker a b (x ∷ xs) le u = (omega (arith, u.0), u.1)

pub in_below : (from q : ℕ) (xs : List ℕ) → Up from xs → q < from → is_in q xs ≡ false
in_below from q [] u lt = refl
in_below from q (x ∷ xs) u lt = rw (ne_eqb x q (λ e. omega (arith, u.0))) (in_below (x + 1) q xs u.1 (omega (arith, u.0)))

in_first : (x : ℕ) (xs : List ℕ) → is_in x (x ∷ xs) ≡ true
in_first x xs = rw (eq_refl x) refl

in_later : (q x : ℕ) (xs : List ℕ) → x ≢ q → is_in q (x ∷ xs) ≡ is_in q xs
in_later q x xs ne = rw (ne_eqb x q ne) refl

-- rising lists with the same members are one
pub same_rising : (from : ℕ) (xs ys : List ℕ) → Up from xs → Up from ys → ((q : ℕ) → is_in q xs ≡ is_in q ys) → xs ≡ ys
same_rising from [] [] u v same = refl
same_rising from [] (y ∷ ys) u v same = absurd (false≢true (same y ∙ in_first y ys))
same_rising from (x ∷ xs) [] u v same = absurd (false≢true (sym (same x) ∙ in_first x xs))
same_rising from (x ∷ xs) (y ∷ ys) u v same = elim (cases_order x y) [
  | inl is ↦
      let v1 : Up (x + 1) ys = rw is v.1 in
      let rest = same_rising (x + 1) xs ys u.1 v1 (λ q. elim (cases_lt x q) [
        | inl lt ↦ sym (in_later q x xs (λ e. omega arith)) ∙ same q ∙ in_later q y ys (λ e. omega arith)
        | inr le ↦ in_below (x + 1) q xs u.1 (omega arith) ∙ sym (in_below (x + 1) q ys v1 (omega arith))
      ]) in
      rw (is, rest) refl
  | inr apart ↦ elim apart [
    | inl lt ↦ absurd (false≢true (sym (in_below y x (y ∷ ys) (omega arith, v.1) lt) ∙ sym (same x) ∙ in_first x xs))
    | inr lt ↦ absurd (false≢true (sym (in_below x y (x ∷ xs) (omega arith, u.1) lt) ∙ same y ∙ in_first y ys))
  ]
]

-- ---- numbers of a range that pass a test

pub filter_up : (p : ℕ → Bool) (a n : ℕ) → Up a (filter p (range_with_len a n))
filter_up p a zero = tt
filter_up p a (suc n) = elim (cases_Bool (p a)) [
  | inl is ↦ rw is (omega arith, filter_up p (a + 1) n)
  | inr is ↦ rw is (up_weaker (a + 1) a (filter p (range_with_len (a + 1) n)) (omega arith) (filter_up p (a + 1) n))
]

skip : (b : Bool) (a q : ℕ) (xs : List ℕ) → a ≢ q → is_in q (cond b (a ∷ xs) xs) ≡ is_in q xs
skip true a q xs ne = in_later q a xs ne
skip false a q xs ne = refl

in_range : (p : ℕ → Bool) (a n q : ℕ) → a ≤ q → q < a + n → is_in q (filter p (range_with_len a n)) ≡ p q
in_range p a zero q le lt = absurd (omega arith)
in_range p a (suc n) q le lt = elim (cases_eq a q) [
  | inl same ↦ elim (cases_Bool (p a)) [
    | inl is ↦ rw is (rw (eq-eqb a q same) (sym (ap p (sym same) ∙ is)))
    | inr is ↦ rw is (in_below (a + 1) q (filter p (range_with_len (a + 1) n)) (filter_up p (a + 1) n) (omega arith) ∙ sym (ap p (sym same) ∙ is))
  ]
  | inr ne ↦ skip (p a) a q (filter p (range_with_len (a + 1) n)) ne ∙ in_range p (a + 1) n q (omega arith) (omega arith)
]

beyond_range : (p : ℕ → Bool) (a n q : ℕ) → a + n ≤ q → is_in q (filter p (range_with_len a n)) ≡ false
beyond_range p a zero q le = refl
beyond_range p a (suc n) q le = skip (p a) a q (filter p (range_with_len (a + 1) n)) (λ e. omega arith) ∙ beyond_range p (a + 1) n q (omega arith)

-- the members, if what passes lies below the end
pub in_filter : (p : ℕ → Bool) (n q : ℕ) → (p q ≡ true → q < n) → is_in q (filter p (range_with_len 0 n)) ≡ p q
in_filter p n q low = elim (cases_Bool (p q)) [
  | inl is ↦ in_range p 0 n q (omega arith) (omega (arith, low is))
  | inr is ↦ elim (cases_lt q n) [
    | inl lt ↦ in_range p 0 n q (omega arith) (omega arith)
    | inr le ↦ beyond_range p 0 n q (omega arith) ∙ sym is
  ]
]

-- what passes is in it or not below the end
pub in_filter_yes : (p : ℕ → Bool) (n q : ℕ) → is_in q (filter p (range_with_len 0 n)) ≡ true → p q ≡ true
in_filter_yes p n q is = elim (cases_lt q n) [
  | inl lt ↦ sym (in_range p 0 n q (omega arith) (omega arith)) ∙ is
  | inr le ↦ absurd (false≢true (sym (beyond_range p 0 n q (omega arith)) ∙ is))
]

-- ---- places

-- the place of a member is how many are lower
pub place_lower : (from d : ℕ) (xs : List ℕ) → Up from xs → is_in d xs ≡ true → prefix_len (λ x. ltb x d) xs ≡ position_or_len (λ x. eqb x d) xs
place_lower from d [] u is = refl
place_lower from d (x ∷ xs) u is = elim (cases_order x d) [
  | inl same ↦ rw (eq-eqb x d same, le-ltb x d (omega arith)) refl
  | inr apart ↦ elim apart [
    | inl lt ↦
        let is1 : is_in d xs ≡ true = sym (in_later d x xs (λ e. omega arith)) ∙ is in
        rw (ne_eqb x d (λ e. omega arith), lt-ltb x d lt) (ap (λ n. 1 + n) (place_lower (x + 1) d xs u.1 is1))
    | inr lt ↦ absurd (false≢true (sym (in_below x d (x ∷ xs) (omega arith, u.1) lt) ∙ is))
  ]
]

pub lower_few : (from d : ℕ) (xs : List ℕ) → Up from xs → prefix_len (λ x. ltb x d) xs ≤ d - from
lower_few from d [] u = omega arith
lower_few from d (x ∷ xs) u = elim (cases_lt x d) [
  | inl lt ↦ rw (lt-ltb x d lt) (omega (arith, u.0, lower_few (x + 1) d xs u.1))
  | inr le ↦ rw (le-ltb x d le) (omega arith)
]

-- what is at the place of a member is that member
pub place_within : (d : ℕ) (xs : List ℕ) → is_in d xs ≡ true → position_or_len (λ x. eqb x d) xs < length xs
place_within d [] is = absurd (false≢true is)
place_within d (x ∷ xs) is = elim (cases_eq x d) [
  | inl same ↦ rw (eq-eqb x d same) (omega arith)
  | inr ne ↦ rw (ne_eqb x d ne) (omega (arith, place_within d xs (sym (in_later d x xs ne) ∙ is)))
]

get_next : (x e n : ℕ) (xs : List ℕ) → get_or (x ∷ xs) (1 + n) e ≡ get_or xs n e
get_next x e n xs = let up : 1 + n ≡ suc n = omega arith in rw up refl

pub at_place : (d e : ℕ) (xs : List ℕ) → is_in d xs ≡ true → get_or xs (position_or_len (λ x. eqb x d) xs) e ≡ d
at_place d e [] is = absurd (false≢true is)
at_place d e (x ∷ xs) is = elim (cases_eq x d) [
  | inl same ↦ rw (eq-eqb x d same) same
  | inr ne ↦ rw (ne_eqb x d ne) (get_next x e (position_or_len (λ y. eqb y d) xs) xs ∙ at_place d e xs (sym (in_later d x xs ne) ∙ is))
]

-- ---- members of a list

pub contains_in : (q : ℕ) (xs : List ℕ) → Contains xs q → is_in q xs ≡ true
contains_in q xs h = list_any_at (λ x. eqb x q) xs h.0 q h.1 (eq-eqb _ q h.2)

pub in_contains : (q : ℕ) (xs : List ℕ) → is_in q xs ≡ true → Contains xs q
in_contains q xs is = let any = Any-from_list_any (λ x. eqb x q) xs is in (any.0, any.2, same any.0 any.1 any.2 any.3 (eqb-true any.1 q any.4))
  where
    same : (k x : ℕ) → k < length xs → get_or xs k x ≡ x → x ≡ q → get_or xs k q ≡ q
    same k x lt at e = rw e at at

-- the numbers of a range
pub in_numbers : (a n q : ℕ) → a ≤ q → q < a + n → is_in q (range_with_len a n) ≡ true
in_numbers a zero q le lt = absurd (omega arith)
in_numbers a (suc n) q le lt = elim (cases_eq a q) [
  | inl same ↦ rw (eq-eqb a q same) refl
  | inr ne ↦ rw (ne_eqb a q ne) (in_numbers (a + 1) n q (omega arith) (omega arith))
]

pub length_numbers : (a n : ℕ) → length (range_with_len a n) ≡ n
length_numbers a zero = refl
length_numbers a (suc n) = ap suc (length_numbers (a + 1) n)
