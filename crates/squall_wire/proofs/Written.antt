-- What is written, one item after another.
use Rattle.std.specs.Prelude.{◌≡◌, ℕ, ◌<◌, ◌≤◌, ◌+◌, length, List, [], ◌∷◌, ◌++◌, Result, Err, refl}
use Rattle.std.proofs.Common.{sym, ap, subst, ◌∙◌, arith, take, drop, get_or, append_assoc, length-append}
use Rattle.std.proofs.lemmas.List.{append-nil, take_more, take-append-drop}
use Rattle.std.proofs.lemmas.List.Concat.{flat_map-append}
use Rattle.std.specs.List.{flat_map, AllByRecursion}

-- two parts, one after the other
pub two_parts : (old mid new a b : List ℕ) → mid ≡ old ++ a → new ≡ mid ++ b → new ≡ old ++ (a ++ b)
two_parts old mid new a b p q = q ∙ ap (λ m. m ++ b) p ∙ append_assoc old a b

-- the bytes of one item more
items_more : {X : Type 0} (f : X → List ℕ) (xs : List X) (i : ℕ) (x : X) → i < length xs → x ≡ get_or xs i x → flat_map f (take (i + 1) xs) ≡ flat_map f (take i xs) ++ f x
items_more f xs i x lt is =
    ap (flat_map f) (take_more xs i x lt ∙ ap (λ v. take i xs ++ v ∷ []) (sym is))
    ∙ flat_map-append f (take i xs) (x ∷ [])
    ∙ ap (λ v. flat_map f (take i xs) ++ v) (append-nil (f x))

-- a list with one item more
pub list_more : {X : Type 0} (f : X → List ℕ) (old n : List ℕ) (xs : List X) (i : ℕ) (x : X) (now new : List ℕ) → i < length xs → x ≡ get_or xs i x → now ≡ old ++ (n ++ flat_map f (take i xs)) → new ≡ now ++ f x → new ≡ old ++ (n ++ flat_map f (take (i + 1) xs))
list_more f old n xs i x now new lt is before step =
    step
    ∙ ap (λ v. v ++ f x) before
    ∙ append_assoc old (n ++ flat_map f (take i xs)) (f x)
    ∙ ap (λ v. old ++ v) (append_assoc n (flat_map f (take i xs)) (f x) ∙ ap (λ v. n ++ v) (sym (items_more f xs i x lt is)))

front_shorter : {X : Type 0} (f : X → List ℕ) (k : ℕ) (xs : List X) → length (flat_map f (take k xs)) ≤ length (flat_map f xs)
front_shorter f k xs = omega (arith, length-append (flat_map f (take k xs)) (flat_map f (drop k xs)), ap length (sym (ap (flat_map f) (take-append-drop k xs)) ∙ flat_map-append f (take k xs) (drop k xs)))

longer_between : (a b c d : List ℕ) → length c ≤ length d → length (a ++ (b ++ c)) ≤ length (a ++ (b ++ d))
longer_between a b c d le = omega (arith, length-append a (b ++ c), length-append a (b ++ d), length-append b c, length-append b d)

-- if a part of a list is too long, the list is
pub list_long : {X : Type 0} (most : ℕ) (f : X → List ℕ) (old n : List ℕ) (xs : List X) (i : ℕ) (x : X) (now : List ℕ) → i < length xs → x ≡ get_or xs i x → now ≡ old ++ (n ++ flat_map f (take i xs)) → most < length (now ++ f x) → most < length (old ++ (n ++ flat_map f xs))
list_long most f old n xs i x now lt is before long =
    let same = list_more f old n xs i x now (now ++ f x) lt is before refl in
    omega (arith, ap length same, longer_between old n (flat_map f (take (i + 1) xs)) (flat_map f xs) (front_shorter f (i + 1) xs), long)

-- what holds of each item so far, and of the next
pub all_more : {X : Type 0} (P : X → Type 0) (xs : List X) (i : ℕ) (x : X) → i < length xs → x ≡ get_or xs i x → AllByRecursion P (take i xs) → P x → AllByRecursion P (take (i + 1) xs)
all_more {X} P xs i x lt is h p = subst (AllByRecursion P) (sym (take_more xs i x lt ∙ ap (λ v. take i xs ++ v ∷ []) (sym is))) (both (take i xs) h)
  where
    both : (ys : List X) → AllByRecursion P ys → AllByRecursion P (ys ++ x ∷ [])
    both [] h = (p, tt)
    both (y ∷ ys) h = (h.0, both ys h.1)

-- bytes whose beginning is too long
pub front_long : (most : ℕ) (old a b : List ℕ) → most < length (old ++ a) → most < length (old ++ (a ++ b))
front_long most old a b long = omega (arith, length-append old a, length-append old (a ++ b), length-append a b, long)

pub first_long : (most : ℕ) (a b : List ℕ) → most < length a → most < length (a ++ b)
first_long most a b long = omega (arith, length-append a b, long)

-- the fault of a step that is passed on
pub passed_on : {A B E : Type 0} (r : Result A E) (s : Result B E) (x y e : E) → r ≡ Err x → s ≡ Err y → y ≡ x → s ≡ Err e → r ≡ Err e
passed_on r s x y e p q same is = cc
