-- Lists: look-ups after a change at a place, and after elements at the end.
use Rattle.std.proofs.Common.{◌≡◌, ◌≢◌, ℕ, zero, suc, ◌+◌, ◌<◌, ◌≤◌, ◌==◌, Bool, true, false, cond, nat_lt, List, [], ◌∷◌, ◌++◌, length, map, Option, None, Some, option_map, position, refl, sym, ap, subst, ◌∙◌, arith}
use Rattle.std.specs.Prelude.{◌||◌, not, is_some}
use Rattle.std.specs.List.{slice_get, AllByRecursion, flat_map, list_any, position_or_len}
use Rattle.std.proofs.lemmas.Bool.Decides.{nat_tests}
use Rattle.std.proofs.lemmas.Option.{same_Some, none-some}
use Rattle.squall_world.specs.Nets.{put_at}

pub eq_refl : (n : ℕ) → (n == n) ≡ true
eq_refl n = grind (arith, nat_tests)

pub eq_same : (m n : ℕ) → (m == n) ≡ true → m ≡ n
eq_same m n e = grind (arith, nat_tests)

pub eq_differ : (m n : ℕ) → m ≢ n → (m == n) ≡ false
eq_differ m n e = grind (arith, nat_tests)

pub eq_apart : (m n : ℕ) → (m == n) ≡ false → m ≢ n
eq_apart m n e = grind (arith, nat_tests)

pub below : (m n : ℕ) → nat_lt m n ≡ true → m < n
below m n e = grind (arith, nat_tests)

-- ---- another element at a place

pub length_put : {A : Type 0} (i : ℕ) (x : A) (xs : List A) → length (put_at i x xs) ≡ length xs
length_put i x [] = refl
length_put zero x (y ∷ ys) = refl
length_put (suc i) x (y ∷ ys) = ap suc (length_put i x ys)

pub put_here : {A : Type 0} (i : ℕ) (x y : A) (xs : List A) → slice_get xs i ≡ Some y → slice_get (put_at i x xs) i ≡ Some x
put_here i x y [] e = absurd (none-some y e)
put_here zero x y (z ∷ zs) e = refl
put_here (suc i) x y (z ∷ zs) e = put_here i x y zs e

pub put_there : {A : Type 0} (i j : ℕ) (x : A) (xs : List A) → j ≢ i → slice_get (put_at i x xs) j ≡ slice_get xs j
put_there i j x [] e = refl
put_there zero zero x (y ∷ ys) e = absurd (e refl)
put_there zero (suc j) x (y ∷ ys) e = refl
put_there (suc i) zero x (y ∷ ys) e = refl
put_there (suc i) (suc j) x (y ∷ ys) e = put_there i j x ys (λ s. e (ap suc s))

-- the first place at which the test passes, by recursion
abbrev pub first_at : {A : Type 0} → (A → Bool) → List A → Option ℕ
first_at p [] = None
first_at p (x ∷ xs) = cond (p x) (Some 0) (option_map suc (first_at p xs))

pub position_is : {A : Type 0} (p : A → Bool) (xs : List A) → position p xs ≡ first_at p xs
position_is p [] = refl
position_is p (x ∷ xs) = by (p x) ∙ ap (λ o. cond (p x) (Some 0) (option_map suc o)) (position_is p xs)
  where
    at : (k n : ℕ) (b : Bool) → nat_lt k n ≡ b → cond (nat_lt (1 + k) (suc n)) (Some (1 + k)) None ≡ option_map suc (cond b (Some k) None)
    at k n true e = let s : nat_lt (1 + k) (suc n) ≡ true = grind (arith, nat_tests) in ap (λ b. cond b (Some (1 + k)) None) s ∙ ap Some (omega arith)
    at k n false e = let s : nat_lt (1 + k) (suc n) ≡ false = grind (arith, nat_tests) in ap (λ b. cond b (Some (1 + k)) None) s

    by : (b : Bool) → cond (nat_lt (cond (not b) (1 + position_or_len p xs) 0) (suc (length xs))) (Some (cond (not b) (1 + position_or_len p xs) 0)) None ≡ cond b (Some 0) (option_map suc (position p xs))
    by true = let s : nat_lt 0 (suc (length xs)) ≡ true = grind (arith, nat_tests) in ap (λ b. cond b (Some 0) None) s
    by false = at (position_or_len p xs) (length xs) (nat_lt (position_or_len p xs) (length xs)) refl

-- a test that both elements answer alike finds the same first place
first_put : {A : Type 0} (p : A → Bool) (i : ℕ) (x y : A) (xs : List A) → slice_get xs i ≡ Some y → p x ≡ p y → first_at p (put_at i x xs) ≡ first_at p xs
first_put p i x y [] e same = refl
first_put p zero x y (z ∷ zs) e same = ap (λ b. cond b (Some 0) (option_map suc (first_at p zs))) (same ∙ ap p (sym (same_Some z y e)))
first_put p (suc i) x y (z ∷ zs) e same = ap (λ o. cond (p z) (Some 0) (option_map suc o)) (first_put p i x y zs e same)

pub place_put : {A : Type 0} (p : A → Bool) (i : ℕ) (x y : A) (xs : List A) → slice_get xs i ≡ Some y → p x ≡ p y → position p (put_at i x xs) ≡ position p xs
place_put p i x y xs e same = position_is p (put_at i x xs) ∙ first_put p i x y xs e same ∙ sym (position_is p xs)

pub flat_put : {A B : Type 0} (f : A → List B) (i : ℕ) (x y : A) (xs : List A) → slice_get xs i ≡ Some y → f x ≡ f y → flat_map f (put_at i x xs) ≡ flat_map f xs
flat_put f i x y [] e same = refl
flat_put f zero x y (z ∷ zs) e same = ap (λ l. l ++ flat_map f zs) (same ∙ ap f (sym (same_Some z y e)))
flat_put f (suc i) x y (z ∷ zs) e same = ap (λ l. f z ++ l) (flat_put f i x y zs e same)

pub all_put : {A : Type 0} (P : A → Type 0) (i : ℕ) (x : A) (xs : List A) → P x → AllByRecursion P xs → AllByRecursion P (put_at i x xs)
all_put P i x [] h all = tt
all_put P zero x (y ∷ ys) h all = (h, all.1)
all_put P (suc i) x (y ∷ ys) h all = (all.0, all_put P i x ys h all.1)

-- ---- elements at the end

pub get_left : {A : Type 0} (xs ys : List A) (i : ℕ) → i < length xs → slice_get (xs ++ ys) i ≡ slice_get xs i
get_left [] ys i lt = absurd (omega arith)
get_left (x ∷ xs) ys zero lt = refl
get_left (x ∷ xs) ys (suc i) lt = get_left xs ys i (omega arith)

pub get_right : {A : Type 0} (xs ys : List A) (i : ℕ) → slice_get (xs ++ ys) (length xs + i) ≡ slice_get ys i
get_right [] ys i = ap (slice_get ys) (omega arith)
get_right (x ∷ xs) ys i = let e : suc (length xs) + i ≡ suc (length xs + i) = omega arith in ap (slice_get (x ∷ xs ++ ys)) e ∙ get_right xs ys i

pub within : {A : Type 0} (xs : List A) (i : ℕ) (x : A) → slice_get xs i ≡ Some x → i < length xs
within [] i x e = absurd (none-some x e)
within (y ∷ ys) zero x e = omega arith
within (y ∷ ys) (suc i) x e = let h = within ys i x e in omega (arith, h)

pub found_within : {A : Type 0} (xs : List A) (i : ℕ) → i < length xs → (x : A) × (slice_get xs i ≡ Some x)
found_within [] i lt = absurd (omega arith)
found_within (y ∷ ys) zero lt = (y, refl)
found_within (y ∷ ys) (suc i) lt = found_within ys i (omega arith)

pub past : {A : Type 0} (xs : List A) (i : ℕ) → slice_get xs i ≡ None → length xs ≤ i
past [] i e = omega arith
past (y ∷ ys) zero e = absurd (none-some y (sym e))
past (y ∷ ys) (suc i) e = let h = past ys i e in omega (arith, h)

pub all_at : {A : Type 0} (P : A → Type 0) (xs : List A) (i : ℕ) (x : A) → AllByRecursion P xs → slice_get xs i ≡ Some x → P x
all_at P [] i x all e = absurd (none-some x e)
all_at P (y ∷ ys) zero x all e = subst P (same_Some y x e) all.0
all_at P (y ∷ ys) (suc i) x all e = all_at P ys i x all.1 e

pub all_append : {A : Type 0} (P : A → Type 0) (xs ys : List A) → AllByRecursion P xs → AllByRecursion P ys → AllByRecursion P (xs ++ ys)
all_append P [] ys a b = b
all_append P (x ∷ xs) ys a b = (a.0, all_append P xs ys a.1 b)

pub all_map : {A : Type 0} (P Q : A → Type 0) (xs : List A) → ((x : A) → P x → Q x) → AllByRecursion P xs → AllByRecursion Q xs
all_map P Q [] f all = tt
all_map P Q (x ∷ xs) f all = (f x all.0, all_map P Q xs f all.1)

pub flat_append : {A B : Type 0} (f : A → List B) (xs ys : List A) → flat_map f (xs ++ ys) ≡ flat_map f xs ++ flat_map f ys
flat_append f [] ys = refl
flat_append f (x ∷ xs) ys = ap (λ l. f x ++ l) (flat_append f xs ys) ∙ append_three (f x) (flat_map f xs) (flat_map f ys)
  where
    append_three : {B : Type 0} (a b c : List B) → a ++ (b ++ c) ≡ (a ++ b) ++ c
    append_three [] b c = refl
    append_three (z ∷ zs) b c = ap (λ l. z ∷ l) (append_three zs b c)

pub map_append : {A B : Type 0} (f : A → B) (xs ys : List A) → map f (xs ++ ys) ≡ map f xs ++ map f ys
map_append f [] ys = refl
map_append f (x ∷ xs) ys = ap (λ l. f x ∷ l) (map_append f xs ys)

-- ---- first places

first_found : {A : Type 0} (p : A → Bool) (xs : List A) (i : ℕ) → first_at p xs ≡ Some i → (x : A) × (slice_get xs i ≡ Some x) × (p x ≡ true)
first_found p [] i e = absurd (none-some i e)
first_found {A = A} p (y ∷ ys) i e = by (p y) refl (first_at p ys) (λ j f. first_found p ys j f) e
  where
    by : (b : Bool) → p y ≡ b → (o : Option ℕ) → ((j : ℕ) → o ≡ Some j → (x : A) × (slice_get ys j ≡ Some x) × (p x ≡ true)) → cond b (Some 0) (option_map suc o) ≡ Some i → (x : A) × (slice_get (y ∷ ys) i ≡ Some x) × (p x ≡ true)
    by true is o rest e = (y, ap (slice_get (y ∷ ys)) (sym (same_Some 0 i e)), is)
    by false is None rest e = absurd (none-some i e)
    by false is (Some j) rest e = let found = rest j refl in (found.0, ap (slice_get (y ∷ ys)) (sym (same_Some (suc j) i e)) ∙ found.1, found.2)

pub place_found : {A : Type 0} (p : A → Bool) (xs : List A) (i : ℕ) → position p xs ≡ Some i → (x : A) × (slice_get xs i ≡ Some x) × (p x ≡ true)
place_found p xs i e = first_found p xs i (sym (position_is p xs) ∙ e)

first_left : {A : Type 0} (p : A → Bool) (xs ys : List A) (i : ℕ) → first_at p xs ≡ Some i → first_at p (xs ++ ys) ≡ Some i
first_left p [] ys i e = absurd (none-some i e)
first_left p (x ∷ xs) ys i e = by (p x) (first_at p xs) (λ j f. first_left p xs ys j f) e
  where
    by : (b : Bool) (o : Option ℕ) → ((j : ℕ) → o ≡ Some j → first_at p (xs ++ ys) ≡ Some j) → cond b (Some 0) (option_map suc o) ≡ Some i → cond b (Some 0) (option_map suc (first_at p (xs ++ ys))) ≡ Some i
    by true o rest e = e
    by false None rest e = absurd (none-some i e)
    by false (Some j) rest e = ap (option_map suc) (rest j refl) ∙ e

-- more elements at the end change no first place
pub place_left : {A : Type 0} (p : A → Bool) (xs ys : List A) (i : ℕ) → position p xs ≡ Some i → position p (xs ++ ys) ≡ Some i
place_left p xs ys i e = position_is p (xs ++ ys) ∙ first_left p xs ys i (sym (position_is p xs) ∙ e)

first_right : {A : Type 0} (p : A → Bool) (xs ys : List A) → first_at p xs ≡ None → first_at p (xs ++ ys) ≡ option_map (λ i. length xs + i) (first_at p ys)
first_right p [] ys e = by (first_at p ys)
  where
    by : (o : Option ℕ) → o ≡ option_map (λ i. 0 + i) o
    by None = refl
    by (Some i) = ap Some (omega arith)
first_right p (x ∷ xs) ys e = by (p x) (first_at p xs) (λ f. first_right p xs ys f) e
  where
    more : (o : Option ℕ) → option_map suc (option_map (λ i. length xs + i) o) ≡ option_map (λ i. suc (length xs) + i) o
    more None = refl
    more (Some i) = ap Some (omega arith)

    by : (b : Bool) (o : Option ℕ) → (o ≡ None → first_at p (xs ++ ys) ≡ option_map (λ i. length xs + i) (first_at p ys)) → cond b (Some 0) (option_map suc o) ≡ None → cond b (Some 0) (option_map suc (first_at p (xs ++ ys))) ≡ option_map (λ i. suc (length xs) + i) (first_at p ys)
    by true o rest e = absurd (none-some 0 (sym e))
    by false None rest e = ap (option_map suc) (rest refl) ∙ more (first_at p ys)
    by false (Some j) rest e = absurd (none-some (suc j) (sym e))

-- where the test passes nowhere before, its first place is beyond
pub place_right : {A : Type 0} (p : A → Bool) (xs ys : List A) → position p xs ≡ None → position p (xs ++ ys) ≡ option_map (λ i. length xs + i) (position p ys)
place_right p xs ys e = position_is p (xs ++ ys) ∙ first_right p xs ys (sym (position_is p xs) ∙ e) ∙ ap (option_map (λ i. length xs + i)) (sym (position_is p ys))

-- a place is some place where the test passes for some element
first_is : {A : Type 0} (p : A → Bool) (xs : List A) → list_any p xs ≡ is_some (first_at p xs)
first_is p [] = refl
first_is p (x ∷ xs) = by (p x) (first_at p xs) (first_is p xs)
  where
    by : (b : Bool) (o : Option ℕ) → list_any p xs ≡ is_some o → (b || list_any p xs) ≡ is_some (cond b (Some 0) (option_map suc o))
    by true o e = refl
    by false None e = e
    by false (Some i) e = e

pub place_is : {A : Type 0} (p : A → Bool) (xs : List A) → list_any p xs ≡ is_some (position p xs)
place_is p xs = first_is p xs ∙ ap is_some (sym (position_is p xs))

pub any_map : {A B : Type 0} (p : B → Bool) (f : A → B) (xs : List A) → list_any p (map f xs) ≡ list_any (λ x. p (f x)) xs
any_map p f [] = refl
any_map p f (x ∷ xs) = ap (λ b. p (f x) || b) (any_map p f xs)
