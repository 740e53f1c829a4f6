-- Entries by rising end, and what a search among their ends finds.
use Rattle.std.proofs.Common.{◌≡◌, ℕ, zero, suc, ◌+◌, ◌-◌, ◌<◌, ◌≤◌, List, [], ◌∷◌, ◌++◌, length, take, drop, refl, sym, ap, ◌∙◌, arith, Some, true, false, if◌then◌else◌, nat_lt}
use Rattle.std.specs.Prelude.{slice_index, slice_get, IsTrue, ◌↔◌}
use Rattle.std.proofs.Common.{inl, inr}
use Rattle.std.proofs.lemmas.Bool.{cases_lt, false≢true}
use Rattle.std.proofs.lemmas.Bool.Decides.{nat_tests}
use Rattle.std.proofs.Common.{subst, take-append-drop}
use Rattle.std.proofs.Math.Seq.{take-add}
use Rattle.std.proofs.lemmas.List.{take_more}
use Rattle.std.proofs.lemmas.Option.{slice_get_within, get_or_from_slice_get}
use Rattle.squall_key.specs.Search.{Rises, IsSought}
use Rattle.squall_blocks.specs.Entries.{ends_of, RiseFrom, last_from, beyond, up_to, replaced}

pub is_below : (a b : ℕ) → a < b → nat_lt a b ≡ true
is_below a b h = grind (arith, nat_tests)

pub not_below : (a b : ℕ) → b ≤ a → nat_lt a b ≡ false
not_below a b h = grind (arith, nat_tests)

pub length-ends_of : {V : Type 0} (es : List (ℕ × V)) → length (ends_of es) ≡ length es
length-ends_of [] = refl
length-ends_of (e ∷ es) = ap suc (length-ends_of es)

above_at : {V : Type 0} (b : ℕ) (es : List (ℕ × V)) (j : ℕ) → RiseFrom b es → j < length (ends_of es) → b < slice_index (ends_of es) j
above_at b [] j r lt = absurd (omega arith)
above_at b (e ∷ es) zero r lt = r.0
above_at b (e ∷ es) (suc j) r lt = let next = above_at e.0 es j r.1 (omega arith) in omega (arith, next, r.0)

pub ends_rise : {V : Type 0} (b : ℕ) (es : List (ℕ × V)) → RiseFrom b es → Rises (slice_index (ends_of es)) (length (ends_of es))
ends_rise b [] r i j le lt = absurd (omega arith)
ends_rise b (e ∷ es) r zero zero le lt = omega arith
ends_rise b (e ∷ es) r zero (suc j) le lt = let next = above_at e.0 es j r.1 (omega arith) in omega (arith, next)
ends_rise b (e ∷ es) r (suc i) zero le lt = absurd (omega arith)
ends_rise b (e ∷ es) r (suc i) (suc j) le lt = ends_rise e.0 es r.1 i j (omega arith) (omega arith)

-- ---- what is beyond a key

pub beyond_first : {V : Type 0} (k : ℕ) (e : ℕ × V) (es : List (ℕ × V)) → k < e.0 → beyond k (e ∷ es) ≡ e ∷ es
beyond_first k e es lt = ap (λ b. if b then e ∷ es else beyond k es) (is_below k e.0 lt)

pub beyond_next : {V : Type 0} (k : ℕ) (e : ℕ × V) (es : List (ℕ × V)) → e.0 ≤ k → beyond k (e ∷ es) ≡ beyond k es
beyond_next k e es le = ap (λ b. if b then e ∷ es else beyond k es) (not_below k e.0 le)

pub up_to_first : {V : Type 0} (k : ℕ) (e : ℕ × V) (es : List (ℕ × V)) → k < e.0 → up_to k (e ∷ es) ≡ []
up_to_first k e es lt = ap (λ b. if b then [] else e ∷ up_to k es) (is_below k e.0 lt)

pub up_to_next : {V : Type 0} (k : ℕ) (e : ℕ × V) (es : List (ℕ × V)) → e.0 ≤ k → up_to k (e ∷ es) ≡ e ∷ up_to k es
up_to_next k e es le = ap (λ b. if b then [] else e ∷ up_to k es) (not_below k e.0 le)

sought_tail : {V : Type 0} (e : ℕ × V) (es : List (ℕ × V)) (k i : ℕ) → IsSought (slice_index (ends_of (e ∷ es))) (length (ends_of (e ∷ es))) k (suc i) 0 → IsSought (slice_index (ends_of es)) (length (ends_of es)) k i 0
sought_tail e es k i m = record {
  within = omega (arith, m.within);
  before = λ j lt. m.before (suc j) (omega arith);
  from = λ j le lt. m.from (suc j) (omega arith) (omega arith);
}

pub sought_beyond : {V : Type 0} (es : List (ℕ × V)) (k i : ℕ) → IsSought (slice_index (ends_of es)) (length (ends_of es)) k i 0 → beyond k es ≡ drop i es
sought_beyond [] k zero m = refl
sought_beyond [] k (suc i) m = refl
sought_beyond (e ∷ es) k zero m = beyond_first k e es (m.from 0 (omega arith) (omega arith))
sought_beyond (e ∷ es) k (suc i) m = beyond_next k e es (m.before 0 (omega arith)) ∙ sought_beyond es k i (sought_tail e es k i m)

pub sought_up_to : {V : Type 0} (es : List (ℕ × V)) (k i : ℕ) → IsSought (slice_index (ends_of es)) (length (ends_of es)) k i 0 → up_to k es ≡ take i es
sought_up_to [] k zero m = refl
sought_up_to [] k (suc i) m = refl
sought_up_to (e ∷ es) k zero m = up_to_first k e es (m.from 0 (omega arith) (omega arith))
sought_up_to (e ∷ es) k (suc i) m = up_to_next k e es (m.before 0 (omega arith)) ∙ ap (λ l. e ∷ l) (sought_up_to es k i (sought_tail e es k i m))

-- ---- lists one after the other

pub rise_weaker : {V : Type 0} (a b : ℕ) (es : List (ℕ × V)) → a ≤ b → RiseFrom b es → RiseFrom a es
rise_weaker a b [] le r = tt
rise_weaker a b (e ∷ es) le r = (omega (arith, r.0), r.1)

pub rise_front : {V : Type 0} (b : ℕ) (xs ys : List (ℕ × V)) → RiseFrom b (xs ++ ys) → RiseFrom b xs
rise_front b [] ys r = tt
rise_front b (x ∷ xs) ys r = (r.0, rise_front x.0 xs ys r.1)

pub rise_back : {V : Type 0} (b : ℕ) (xs ys : List (ℕ × V)) → RiseFrom b (xs ++ ys) → RiseFrom (last_from b xs) ys
rise_back b [] ys r = r
rise_back b (x ∷ xs) ys r = rise_back x.0 xs ys r.1

pub rise_append : {V : Type 0} (b : ℕ) (xs ys : List (ℕ × V)) → RiseFrom b xs → RiseFrom (last_from b xs) ys → RiseFrom b (xs ++ ys)
rise_append b [] ys r s = s
rise_append b (x ∷ xs) ys r s = (r.0, rise_append x.0 xs ys r.1 s)

pub last_above : {V : Type 0} (b : ℕ) (es : List (ℕ × V)) → RiseFrom b es → b ≤ last_from b es
last_above b [] r = omega arith
last_above b (e ∷ es) r = let next = last_above e.0 es r.1 in omega (arith, next, r.0)

-- a list that is not empty ends where it does, whatever bound is before it
pub last_any : {V : Type 0} (a b : ℕ) (es : List (ℕ × V)) → 0 < length es → last_from a es ≡ last_from b es
last_any a b [] lt = absurd (omega arith)
last_any a b (e ∷ es) lt = refl

pub last_append : {V : Type 0} (b : ℕ) (xs ys : List (ℕ × V)) → last_from b (xs ++ ys) ≡ last_from (last_from b xs) ys
last_append b [] ys = refl
last_append b (x ∷ xs) ys = last_append x.0 xs ys

-- the entry with none behind it ends where all end
last_is : {V : Type 0} (b n : ℕ) (e : ℕ × V) (es : List (ℕ × V)) → n ≡ length es → slice_get (e ∷ es) n ≡ slice_get (e ∷ es) (length es)
last_is b n e es m = ap (slice_get (e ∷ es)) m

pub last_of : {V : Type 0} (b : ℕ) (e : ℕ × V) (es : List (ℕ × V)) (x : ℕ × V) → slice_get (e ∷ es) (length es) ≡ Some x → x.0 ≡ last_from b (e ∷ es)
last_of {V} b e [] x is = let same : e ≡ x = cc in sym (ap (λ (y : ℕ × V). y.0) same)
last_of b e (f ∷ es) x is = last_of e.0 f es x is

pub last_at : {V : Type 0} (b n : ℕ) (es : List (ℕ × V)) (x : ℕ × V) → n + 1 ≡ length es → slice_get es n ≡ Some x → x.0 ≡ last_from b es
last_at b n [] x m is = absurd (omega arith)
last_at b n (e ∷ es) x m is = last_of b e es x (sym (last_is b n e es (omega arith)) ∙ is)

-- all end by the key
pub beyond_none : {V : Type 0} (b k : ℕ) (xs ys : List (ℕ × V)) → RiseFrom b xs → last_from b xs ≤ k → beyond k (xs ++ ys) ≡ beyond k ys
beyond_none b k [] ys r le = refl
beyond_none b k (x ∷ xs) ys r le =
    let up = last_above x.0 xs r.1 in
    beyond_next k x (xs ++ ys) (omega (arith, up)) ∙ beyond_none x.0 k xs ys r.1 le

pub up_to_all : {V : Type 0} (b k : ℕ) (xs ys : List (ℕ × V)) → RiseFrom b xs → last_from b xs ≤ k → up_to k (xs ++ ys) ≡ xs ++ up_to k ys
up_to_all b k [] ys r le = refl
up_to_all b k (x ∷ xs) ys r le =
    let up = last_above x.0 xs r.1 in
    up_to_next k x (xs ++ ys) (omega (arith, up)) ∙ ap (λ l. x ∷ l) (up_to_all x.0 k xs ys r.1 le)

-- some end beyond it: whether the key is below an end
pub beyond_some : {V : Type 0} (b k : ℕ) (xs ys : List (ℕ × V)) → b ≤ k → k < last_from b xs → beyond k (xs ++ ys) ≡ beyond k xs ++ ys
beyond_some b k [] ys le lt = absurd (omega arith)
beyond_some b k (x ∷ xs) ys le lt = elim (cases_lt k x.0) [
  | inl here ↦ beyond_first k x (xs ++ ys) here ∙ ap (λ l. l ++ ys) (sym (beyond_first k x xs here))
  | inr past ↦ beyond_next k x (xs ++ ys) past ∙ beyond_some x.0 k xs ys past lt ∙ ap (λ l. l ++ ys) (sym (beyond_next k x xs past))
]

pub up_to_some : {V : Type 0} (b k : ℕ) (xs ys : List (ℕ × V)) → b ≤ k → k < last_from b xs → up_to k (xs ++ ys) ≡ up_to k xs
up_to_some b k [] ys le lt = absurd (omega arith)
up_to_some b k (x ∷ xs) ys le lt = elim (cases_lt k x.0) [
  | inl here ↦ up_to_first k x (xs ++ ys) here ∙ sym (up_to_first k x xs here)
  | inr past ↦ up_to_next k x (xs ++ ys) past ∙ ap (λ l. x ∷ l) (up_to_some x.0 k xs ys past lt) ∙ sym (up_to_next k x xs past)
]

pub rise_part : {V : Type 0} (b : ℕ) (es : List (ℕ × V)) (at n : ℕ) → RiseFrom b es → RiseFrom (last_from b (take at es)) (take n (drop at es))
rise_part b es at n r =
    let back = rise_back b (take at es) (drop at es) (subst (RiseFrom b) (sym (take-append-drop at es)) r) in
    rise_front (last_from b (take at es)) (take n (drop at es)) (drop n (drop at es)) (subst (RiseFrom (last_from b (take at es))) (sym (take-append-drop n (drop at es))) back)

pub part_added : {V : Type 0} (es done block new : List (ℕ × V)) (at n m : ℕ) → done ≡ take at es → m ≡ n → block ≡ take m (drop at es) → new ≡ done ++ block → new ≡ take (at + n) es
part_added es done block new at n m d e b w = w ∙ (λ j. d j ++ (b ∙ ap (λ k. take k (drop at es)) e) j) ∙ sym (take-add at n es)

-- ---- entries between two keys

up_to_rises : {V : Type 0} (c a : ℕ) (es : List (ℕ × V)) → RiseFrom c es → RiseFrom c (up_to a es)
up_to_rises c a [] r = tt
up_to_rises c a (e ∷ es) r = elim (cases_lt a e.0) [
  | inl lt ↦ subst (RiseFrom c) (sym (up_to_first a e es lt)) tt
  | inr ge ↦ subst (RiseFrom c) (sym (up_to_next a e es ge)) (r.0, up_to_rises e.0 a es r.1)
]

up_to_ends : {V : Type 0} (c a : ℕ) (es : List (ℕ × V)) → c ≤ a → last_from c (up_to a es) ≤ a
up_to_ends c a [] le = le
up_to_ends c a (e ∷ es) le = elim (cases_lt a e.0) [
  | inl lt ↦ (let same = ap (last_from c) (up_to_first a e es lt) in omega (arith, same, le))
  | inr ge ↦ (let same = ap (last_from c) (up_to_next a e es ge) in let h = up_to_ends e.0 a es ge in omega (arith, same, h))
]

beyond_rises : {V : Type 0} (c b : ℕ) (es : List (ℕ × V)) → RiseFrom c es → RiseFrom b (beyond b es)
beyond_rises c b [] r = tt
beyond_rises c b (e ∷ es) r = elim (cases_lt b e.0) [
  | inl lt ↦ subst (RiseFrom b) (sym (beyond_first b e es lt)) (lt, r.1)
  | inr ge ↦ subst (RiseFrom b) (sym (beyond_next b e es ge)) (beyond_rises e.0 b es r.1)
]

pub replaced_rises : {V : Type 0} (a b : ℕ) (f es : List (ℕ × V)) → RiseFrom 0 es → RiseFrom a f → last_from a f ≤ b → RiseFrom 0 (replaced a b f es)
replaced_rises a b f es r fr le =
    let behind = rise_append a f (beyond b es) fr (rise_weaker (last_from a f) b (beyond b es) le (beyond_rises 0 b es r)) in
    rise_append 0 (up_to a es) (f ++ beyond b es) (up_to_rises 0 a es r) (rise_weaker (last_from 0 (up_to a es)) a (f ++ beyond b es) (up_to_ends 0 a es (omega arith)) behind)

take_more_at : {V : Type 0} (es : List (ℕ × V)) (n : ℕ) (x : ℕ × V) → slice_get es n ≡ Some x → take (n + 1) es ≡ take n es ++ x ∷ []
take_more_at es n x is = take_more es n x (slice_get_within es n x is) ∙ ap (λ y. take n es ++ y ∷ []) (get_or_from_slice_get es n x x is)

-- one more entry
pub rise_more : {V : Type 0} (b n last : ℕ) (es : List (ℕ × V)) (x : ℕ × V) → RiseFrom b (take n es) × (last ≡ last_from b (take n es)) → slice_get es n ≡ Some x → last < x.0 → RiseFrom b (take (n + 1) es) × (x.0 ≡ last_from b (take (n + 1) es))
rise_more b n last es x h is lt =
    let more : take (n + 1) es ≡ take n es ++ x ∷ [] = take_more_at es n x is in
    let up = rise_append b (take n es) (x ∷ []) h.0 (omega (arith, lt, h.1), tt) in (
      subst (RiseFrom b) (sym more) up,
      sym (ap (last_from b) more ∙ last_append b (take n es) (x ∷ [])),
    )

-- an entry lies beyond those before it
pub rise_at : {V : Type 0} (b n : ℕ) (es : List (ℕ × V)) (x : ℕ × V) → RiseFrom b es → slice_get es n ≡ Some x → last_from b (take n es) < x.0
rise_at b n [] x r is = absurd cc
rise_at b zero (e ∷ es) x r is = let same : e ≡ x = cc in subst (λ (y : ℕ × _). b < y.0) same r.0
rise_at b (suc n) (e ∷ es) x r is = rise_at e.0 n es x r.1 is

-- an end that does not lie beyond the one before it
pub no_more : {V : Type 0} (b t n last : ℕ) (es : List (ℕ × V)) (x : ℕ × V) → last ≡ last_from b (take n es) → slice_get es n ≡ Some x → x.0 ≤ last → IsTrue false ↔ (RiseFrom b es × (last_from b es ≤ t))
no_more b t n last es x e is le = (
  λ no. absurd (false≢true no),
  λ r. (let up = rise_at b n es x r.0 is in absurd (omega (arith, up, e, le))),
)

-- ---- where the entry above a key begins

pub before_is : {V : Type 0} (least k n : ℕ) (es : List (ℕ × V)) (x : ℕ × V) → up_to k es ≡ take n es → n ≤ length es → 0 < n → slice_get es (n - 1) ≡ Some x → x.0 ≡ last_from least (up_to k es)
before_is least k n es x e le some is =
    let last : n - 1 + 1 ≡ n = omega (arith, some) in
    let more : take n es ≡ take (n - 1) es ++ x ∷ [] = ap (λ i. take i es) (sym last) ∙ take_more_at es (n - 1) x is in
    sym (ap (last_from least) (e ∙ more) ∙ last_append least (take (n - 1) es) (x ∷ []))

pub before_none : {V : Type 0} (least k n : ℕ) (es : List (ℕ × V)) → up_to k es ≡ take n es → n ≡ 0 → least ≡ last_from least (up_to k es)
before_none least k n es e z = sym (ap (last_from least) (e ∙ ap (λ i. take i es) z))
