-- Parts of a table.
use Rattle.std.proofs.Common.{◌≡◌, ◌≢◌, ℕ, zero, suc, ◌+◌, ◌-◌, ◌<◌, ◌≤◌, List, [], ◌∷◌, ◌++◌, length, get_or, take, drop, length-drop, refl, sym, ap, subst, ◌∙◌, arith}
use Rattle.std.specs.List.Sorted.{IsNonDecreasingBy}
use Rattle.std.proofs.lemmas.List.{get_or-drop, get_or_default}
use Rattle.squall_plan.specs.declared.range.PlanRange.{PlanRange}
use Rattle.squall_key.specs.Keys.{top}
use Rattle.squall_table.specs.Legs.{Differs, Legs, Grows, IsAt, EndsAt}
use Rattle.squall_table.specs.LegLaws.{legs_up, legs_append, legs_at, legs_as, grows_as}

abbrev hi_of : PlanRange → ℕ
hi_of l = l.span.hi

ends_above : (f : ℕ → ℕ) (a b : ℕ) (xs : List PlanRange) (j : ℕ) (d : PlanRange) → Legs f a b xs → j < length xs → a < hi_of (get_or xs j d)
ends_above f a b [] j d t lt = absurd (omega arith)
ends_above f a b (r ∷ rs) zero d t lt = omega (arith, t.0, t.1)
ends_above f a b (r ∷ rs) (suc j) d t lt = let above = ends_above f r.span.hi b rs j d t.4 (omega arith) in omega (arith, t.0, t.1)

pub ends_rise : (f : ℕ → ℕ) (a b : ℕ) (xs : List PlanRange) → Legs f a b xs → IsNonDecreasingBy (λ r. r.span.hi) xs
ends_rise f a b [] t i j d le lt = absurd (omega arith)
ends_rise f a b (r ∷ rs) t zero zero d le lt = omega arith
ends_rise f a b (r ∷ rs) t zero (suc j) d le lt = let above = ends_above f r.span.hi b rs j d t.4 (omega arith) in omega arith
ends_rise f a b (r ∷ rs) t (suc i) zero d le lt = absurd (omega arith)
ends_rise f a b (r ∷ rs) t (suc i) (suc j) d le lt = ends_rise f r.span.hi b rs t.4 i j d (omega arith) (omega arith)

pub legs_take : (f : ℕ → ℕ) (a b : ℕ) (xs : List PlanRange) (i : ℕ) (d : PlanRange) → Legs f a b xs → i < length xs → Legs f a (get_or xs i d).span.lo (take i xs)
legs_take f a b [] i d t lt = absurd (omega arith)
legs_take f a b (x ∷ xs) zero d t lt = sym t.0
legs_take f a b (x ∷ xs) (suc i) d t lt = (t.0, t.1, t.2, differs xs i t.3, legs_take f x.span.hi b xs i d t.4 (omega arith))
  where
    differs : (xs : List PlanRange) (i : ℕ) → Differs x.part xs → Differs x.part (take i xs)
    differs xs zero h = tt
    differs [] (suc i) h = tt
    differs (y ∷ ys) (suc i) h = h

pub legs_drop : (f : ℕ → ℕ) (a b : ℕ) (xs : List PlanRange) (i : ℕ) (d : PlanRange) → Legs f a b xs → i < length xs → Legs f (get_or xs i d).span.lo b (drop i xs)
legs_drop f a b [] i d t lt = absurd (omega arith)
legs_drop f a b (x ∷ xs) zero d t lt = (refl, t.1, t.2, t.3, t.4)
legs_drop f a b (x ∷ xs) (suc i) d t lt = legs_drop f x.span.hi b xs i d t.4 (omega arith)

pub legs_next : (f : ℕ → ℕ) (a b : ℕ) (xs : List PlanRange) (i j : ℕ) (d : PlanRange) → Legs f a b xs → j ≡ suc i → j < length xs → (get_or xs i d).span.hi ≡ (get_or xs j d).span.lo
legs_next f a b xs i zero d t e lt = absurd (omega arith)
legs_next f a b [] i (suc j) d t e lt = absurd (omega arith)
legs_next f a b (x ∷ []) i (suc j) d t e lt = absurd (omega arith)
legs_next f a b (x ∷ y ∷ ys) zero (suc zero) d t e lt = sym t.4.0
legs_next f a b (x ∷ y ∷ ys) zero (suc (suc j)) d t e lt = absurd (omega arith)
legs_next f a b (x ∷ y ∷ ys) (suc i) (suc j) d t e lt = legs_next f x.span.hi b (y ∷ ys) i j d t.4 (omega arith) (omega arith)

-- routes differ where a leg begins
pub legs_border : (f : ℕ → ℕ) (a b : ℕ) (xs : List PlanRange) (i k : ℕ) (d : PlanRange) → Legs f a b xs → i < length xs → a ≤ k → k + 1 ≡ (get_or xs i d).span.lo → f k ≢ f (get_or xs i d).span.lo
legs_border f a b [] i k d t lt le e = absurd (omega arith)
legs_border f a b (x ∷ xs) zero k d t lt le e = absurd (omega (arith, t.0))
legs_border f a b (x ∷ []) (suc i) k d t lt le e = absurd (omega arith)
legs_border f a b (x ∷ y ∷ ys) (suc zero) k d t lt le e = λ h.
    let p : f k ≡ x.part = t.2 k (omega (arith, t.0)) (omega (arith, t.4.0)) in
    let q : f y.span.lo ≡ y.part = t.4.2 y.span.lo (omega arith) t.4.1 in
    t.3 (sym p ∙ h ∙ q)
legs_border f a b (x ∷ y ∷ ys) (suc (suc i)) k d t lt le e =
    legs_border f x.span.hi b (y ∷ ys) (suc i) k d t.4 (omega arith) (let r = legs_at f y.span.hi b ys i d t.4.4 (omega arith) in omega (arith, r.from, t.4.0, t.4.1)) e

pub owner_at : (f : ℕ → ℕ) (a b k : ℕ) (xs : List PlanRange) (i : ℕ) (d : PlanRange) → Legs f a b xs → IsAt xs k i → f k ≡ (get_or xs i d).part
owner_at f a b k xs i d t at = (legs_at f a b xs i d t at.within).routes k (at.from d) (at.below d)

-- the legs from the key lo to the bound hi, if these are in different legs
pub grows_kept : (g : ℕ → ℕ) (legs : List PlanRange) (lo hi i j : ℕ) (d : PlanRange) (x y z w : List PlanRange) → Legs g 0 top legs → lo < hi → hi ≤ top → IsAt legs lo i → EndsAt legs hi j → i < j
    → Grows (λ _. (get_or legs i d).part) lo (get_or legs i d).span.hi x y
    → z ≡ y ++ take (j - (i + 1)) (drop (i + 1) legs)
    → Grows (λ _. (get_or legs j d).part) (get_or legs j d).span.lo hi z w
    → Grows g lo hi x w
grows_kept g legs lo hi i j d x y z w t lt high at end less p e q f from is l =
    let first = legs_at g 0 top legs i d t at.within in
    let last = legs_at g 0 top legs j d t end.within in
    let next = legs_at g 0 top legs (i + 1) d t (omega (arith, end.within)) in
    let touch = legs_next g 0 top legs i (i + 1) d t (omega arith) (omega (arith, end.within)) in
    let u = legs_drop g 0 top legs (i + 1) d t (omega (arith, end.within)) in
    let v = legs_take g (get_or legs (i + 1) d).span.lo top (drop (i + 1) legs) (j - (i + 1)) d u short in
    let there : get_or (drop (i + 1) legs) (j - (i + 1)) d ≡ get_or legs j d = get_or-drop (i + 1) legs (j - (i + 1)) d ∙ ap (λ n. get_or legs n d) (omega arith) in
    let v' : Legs g (get_or legs i d).span.hi (get_or legs j d).span.lo (take (j - (i + 1)) (drop (i + 1) legs)) =
    subst (λ (m : PlanRange). Legs g (get_or legs i d).span.hi m.span.lo (take (j - (i + 1)) (drop (i + 1) legs))) there (subst (λ (n : ℕ). Legs g n (get_or (drop (i + 1) legs) (j - (i + 1)) d).span.lo (take (j - (i + 1)) (drop (i + 1) legs))) (sym touch) v) in
    let up = legs_up g _ _ _ v' in
    let low : lo < (get_or legs i d).span.hi = at.below d in
    let high' : (get_or legs j d).span.lo < hi = end.from d in
    let middle = legs_as g f (get_or legs i d).span.hi (get_or legs j d).span.lo _ (λ k a b. is k (omega arith) (omega arith)) v' in
    let one = p f from (λ k a b. is k a (omega arith) ∙ first.routes k (omega (arith, at.from d)) b) l in
    let two : Legs f from (get_or legs j d).span.lo z = subst (λ zs. Legs f from (get_or legs j d).span.lo zs) (sym e) (legs_append f from (get_or legs i d).span.hi (get_or legs j d).span.lo y _ one middle (λ k a b c h.
    let same : g k ≡ f k = sym (is k (omega arith) (omega arith)) in
    let same' : f (get_or legs i d).span.hi ≡ g (get_or legs (i + 1) d).span.lo = is (get_or legs i d).span.hi (omega arith) (omega arith) ∙ ap g touch in
    legs_border g 0 top legs (i + 1) k d t (omega (arith, end.within)) (omega arith) (b ∙ touch) (same ∙ h ∙ same'))) in
    q f from (λ k a b. is k (omega (arith, last.from, at.from d, up)) b ∙ last.routes k a (omega (arith, end.below d))) two
  where
    short : j - (i + 1) < length (drop (i + 1) legs)
    short = omega (arith, less, length-drop (i + 1) legs, end.within)

-- the keys from lo to hi if these are in one leg
pub grows_one : (g : ℕ → ℕ) (legs : List PlanRange) (lo hi i j : ℕ) (d : PlanRange) (x w : List PlanRange) → Legs g 0 top legs → IsAt legs lo i → EndsAt legs hi j → j ≤ i
    → Grows (λ _. (get_or legs i d).part) lo hi x w → Grows g lo hi x w
grows_one g legs lo hi i j d x w t at end le p =
    let up = ends_rise g 0 top legs t j i d le at.within in
    grows_as (λ _. (get_or legs i d).part) g lo hi x w (λ k a b. sym ((legs_at g 0 top legs i d t at.within).routes k (omega (arith, at.from d)) (omega (arith, end.below d, up)))) p

pub starts_rise : (f : ℕ → ℕ) (a b : ℕ) (xs : List PlanRange) → Legs f a b xs → IsNonDecreasingBy (λ r. r.span.lo) xs
starts_rise f a b [] t i j d le lt = absurd (omega arith)
starts_rise f a b (r ∷ rs) t zero zero d le lt = omega arith
starts_rise f a b (r ∷ rs) t zero (suc j) d le lt = let above = legs_at f r.span.hi b rs j d t.4 (omega arith) in omega (arith, t.1, above.from)
starts_rise f a b (r ∷ rs) t (suc i) zero d le lt = absurd (omega arith)
starts_rise f a b (r ∷ rs) t (suc i) (suc j) d le lt = starts_rise f r.span.hi b rs t.4 i j d (omega arith) (omega arith)

-- the same, by the legs as they were read
pub copied_one : (g : ℕ → ℕ) (legs : List PlanRange) (lo hi i j : ℕ) (a : PlanRange) (x w : List PlanRange) → Legs g 0 top legs → IsAt legs lo i → EndsAt legs hi j → j ≤ i
    → a ≡ get_or legs i a → Grows (λ _. a.part) lo hi x w → Grows g lo hi x w
copied_one g legs lo hi i j a x w t at end le is p = grows_one g legs lo hi i j a x w t at end le (subst (λ (l : PlanRange). Grows (λ _. l.part) lo hi x w) is p)

pub copied : (g : ℕ → ℕ) (legs : List PlanRange) (lo hi i j : ℕ) (a b : PlanRange) (u v : ℕ) (x y z w : List PlanRange) → Legs g 0 top legs → lo < hi → hi ≤ top → IsAt legs lo i → EndsAt legs hi j → i < j
    → a ≡ get_or legs i a → u ≡ a.span.hi → b ≡ get_or legs j b → v ≡ b.span.lo
    → Grows (λ _. a.part) lo u x y
    → z ≡ y ++ take (j - (i + 1)) (drop (i + 1) legs)
    → Grows (λ _. b.part) v hi z w
    → Grows g lo hi x w
copied g legs lo hi i j a b u v x y z w t lt high at end less is ends is' begins p e q =
    let same : b ≡ get_or legs j a = is' ∙ get_or_default legs j b a end.within in
    grows_kept g legs lo hi i j a x y z w t lt high at end less
    (subst (λ (l : PlanRange). Grows (λ _. l.part) lo l.span.hi x y) is (subst (λ n. Grows (λ _. a.part) lo n x y) ends p))
    e
    (subst (λ (l : PlanRange). Grows (λ _. l.part) l.span.lo hi z w) same (subst (λ n. Grows (λ _. b.part) n hi z w) begins q))
