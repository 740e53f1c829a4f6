-- Legs as entries: which entry has a key, and where a list of entries is cut.
use Rattle.std.proofs.Common.{◌≡◌, ◌≢◌, ℕ, zero, suc, ◌+◌, ◌<◌, ◌≤◌, List, [], ◌∷◌, ◌++◌, length, refl, sym, ap, subst, ◌∙◌, arith, inl, inr, take, get_or, add-one}
use Rattle.std.proofs.lemmas.Bool.{cases_lt}
use Rattle.squall_key.specs.Keys.{top}
use Rattle.squall_plan.specs.declared.range.PlanRange.{PlanRange}
use Rattle.squall_blocks.specs.Entries.{RiseFrom, last_from, beyond, up_to, replaced}
use Rattle.squall_blocks.specs.EntriesLaws.{beyond_first, beyond_next, up_to_first, up_to_next}
use Rattle.squall_table.specs.Tables.{leg_of}
use Rattle.squall_table.specs.Legs.{Differs, Legs}
use Rattle.squall_table.specs.LegLaws.{legs_up, legs_as, legs_append}
use Rattle.squall_table.specs.LegEntries.{legs_from, entries_of}

-- ---- there and back

pub legs_of_entries : (f : ℕ → ℕ) (lo hi : ℕ) (ls : List PlanRange) → Legs f lo hi ls → legs_from lo (entries_of ls) ≡ ls
legs_of_entries f lo hi [] l = refl
legs_of_entries f lo hi (x ∷ ls) l =
    let rest = legs_of_entries f x.span.hi hi ls l.4 in
    λ i. leg_of (sym l.0 i) x.span.hi x.part ∷ rest i

pub entries_of_legs : (lo : ℕ) (es : List (ℕ × ℕ)) → entries_of (legs_from lo es) ≡ es
entries_of_legs lo [] = refl
entries_of_legs lo (e ∷ es) = ap (λ (xs : List (ℕ × ℕ)). e ∷ xs) (entries_of_legs e.0 es)

pub legs_rise : (f : ℕ → ℕ) (lo hi : ℕ) (es : List (ℕ × ℕ)) → Legs f lo hi (legs_from lo es) → RiseFrom lo es
legs_rise f lo hi [] l = tt
legs_rise f lo hi (e ∷ es) l = (l.1, legs_rise f e.0 hi es l.4)

pub legs_end : (f : ℕ → ℕ) (lo hi : ℕ) (es : List (ℕ × ℕ)) → Legs f lo hi (legs_from lo es) → last_from lo es ≡ hi
legs_end f lo hi [] l = l
legs_end f lo hi (e ∷ es) l = legs_end f e.0 hi es l.4

pub legs_from-append : (lo : ℕ) (xs ys : List (ℕ × ℕ)) → legs_from lo (xs ++ ys) ≡ legs_from lo xs ++ legs_from (last_from lo xs) ys
legs_from-append lo [] ys = refl
legs_from-append lo (x ∷ xs) ys = ap (λ (ls : List PlanRange). leg_of lo x.0 x.1 ∷ ls) (legs_from-append x.0 xs ys)

-- the entries of one leg more
entries_next : (ls : List PlanRange) (i : ℕ) (l : PlanRange) → i < length ls → l ≡ get_or ls i l → entries_of (take i ls) ++ (l.span.hi, l.part) ∷ [] ≡ entries_of (take (suc i) ls)
entries_next [] i l lt is = absurd (omega arith)
entries_next (x ∷ ls) zero l lt is = ap (λ (y : PlanRange). (y.span.hi, y.part) ∷ []) is
entries_next (x ∷ ls) (suc i) l lt is = ap (λ (es : List (ℕ × ℕ)). (x.span.hi, x.part) ∷ es) (entries_next ls i l (omega arith) is)

pub entries_more : (ls : List PlanRange) (es now : List (ℕ × ℕ)) (i hi : ℕ) (l : PlanRange) → i < length ls → l ≡ get_or ls i l → hi ≡ l.span.hi → es ≡ entries_of (take i ls) → now ≡ es ++ (hi, l.part) ∷ [] → now ≡ entries_of (take (i + 1) ls)
entries_more ls es now i hi l lt is at was new =
    rw add-one (new ∙ ap (λ (xs : List (ℕ × ℕ)). xs ++ (hi, l.part) ∷ []) was ∙ ap (λ n. entries_of (take i ls) ++ (n, l.part) ∷ []) at ∙ entries_next ls i l lt is)

-- ---- the entry of a key

-- the first entry that ends beyond the key, and those behind it
pub record Found (f : ℕ → ℕ) (lo hi k : ℕ) (es : List (ℕ × ℕ)) : Type 0 where
  pub first : ℕ × ℕ
  pub rest : List (ℕ × ℕ)
  pub is : beyond k es ≡ first ∷ rest
  pub above : k < first.0
  pub within : first.0 ≤ hi
  pub from : last_from lo (up_to k es) ≤ k
  pub routes : (j : ℕ) → last_from lo (up_to k es) ≤ j → j < first.0 → f j ≡ first.1
  pub next : rest ≡ beyond first.0 es
  pub ends : last_from lo (up_to first.0 es) ≡ first.0

pub found : (f : ℕ → ℕ) (lo hi k : ℕ) (es : List (ℕ × ℕ)) → Legs f lo hi (legs_from lo es) → lo ≤ k → k < hi → Found f lo hi k es
found f lo hi k [] l from below = absurd (omega (arith, l))
found f lo hi k (e ∷ es) l from below = elim (cases_lt k e.0) [
  | inl here ↦
      let none : last_from lo (up_to k (e ∷ es)) ≡ lo = ap (last_from lo) (up_to_first k e es here) in
      record {
        first = e;
        rest = es;
        is = beyond_first k e es here;
        above = here;
        within = legs_up f e.0 hi (legs_from e.0 es) l.4;
        from = omega (arith, none);
        routes = λ j a b. l.2 j (omega (arith, none)) b;
        next = all e.0 es (legs_rise f e.0 hi es l.4) ∙ sym (beyond_next e.0 e es (omega arith));
        ends = ap (last_from lo) (up_to_next e.0 e es (omega arith) ∙ ap (λ (xs : List (ℕ × ℕ)). e ∷ xs) (none_up e.0 es (legs_rise f e.0 hi es l.4)));
      }
  | inr past ↦
      let r = found f e.0 hi k es l.4 past below in
      let more : last_from lo (up_to k (e ∷ es)) ≡ last_from e.0 (up_to k es) = ap (last_from lo) (up_to_next k e es past) in
      record {
        first = r.first;
        rest = r.rest;
        is = beyond_next k e es past ∙ r.is;
        above = r.above;
        within = r.within;
        from = omega (arith, more, r.from);
        routes = λ j a b. r.routes j (omega (arith, more)) b;
        next = r.next ∙ sym (beyond_next r.first.0 e es (omega (arith, r.above)));
        ends = ap (last_from lo) (up_to_next r.first.0 e es (omega (arith, r.above))) ∙ r.ends;
      }
]
  where
    all : (b : ℕ) (xs : List (ℕ × ℕ)) → RiseFrom b xs → xs ≡ beyond b xs
    all b [] r = refl
    all b (x ∷ xs) r = sym (beyond_first b x xs r.0)

    none_up : (b : ℕ) (xs : List (ℕ × ℕ)) → RiseFrom b xs → up_to b xs ≡ []
    none_up b [] r = refl
    none_up b (x ∷ xs) r = up_to_first b x xs r.0

pub none_beyond : (f : ℕ → ℕ) (lo hi k : ℕ) (es : List (ℕ × ℕ)) → Legs f lo hi (legs_from lo es) → hi ≤ k → (beyond k es ≡ []) × (up_to k es ≡ es)
none_beyond f lo hi k [] l le = (refl, refl)
none_beyond f lo hi k (e ∷ es) l le =
    let up = legs_up f e.0 hi (legs_from e.0 es) l.4 in
    let r = none_beyond f e.0 hi k es l.4 le in
    (beyond_next k e es (omega (arith, up)) ∙ r.0, up_to_next k e es (omega (arith, up)) ∙ ap (λ (xs : List (ℕ × ℕ)). e ∷ xs) r.1)

-- the last bound at or before a key is the last at or before itself
pub last_is_end : (lo k : ℕ) (es : List (ℕ × ℕ)) → RiseFrom lo es → last_from lo (up_to (last_from lo (up_to k es)) es) ≡ last_from lo (up_to k es)
last_is_end lo k [] r = refl
last_is_end lo k (e ∷ es) r = elim (cases_lt k e.0) [
  | inl here ↦
      let is : last_from lo (up_to k (e ∷ es)) ≡ lo = ap (last_from lo) (up_to_first k e es here) in
      subst (λ n. last_from lo (up_to n (e ∷ es)) ≡ n) (sym is) (ap (last_from lo) (up_to_first lo e es r.0))
  | inr past ↦
      let is : last_from lo (up_to k (e ∷ es)) ≡ last_from e.0 (up_to k es) = ap (last_from lo) (up_to_next k e es past) in
      let up = low e.0 (up_to k es) (front e.0 k es r.1) in
      subst (λ n. last_from lo (up_to n (e ∷ es)) ≡ n) (sym is) (ap (last_from lo) (up_to_next (last_from e.0 (up_to k es)) e es up) ∙ last_is_end e.0 k es r.1)
]
  where
    low : (b : ℕ) (xs : List (ℕ × ℕ)) → RiseFrom b xs → b ≤ last_from b xs
    low b [] r = omega arith
    low b (x ∷ xs) r = let rest = low x.0 xs r.1 in omega (arith, r.0, rest)

    front : (b k : ℕ) (xs : List (ℕ × ℕ)) → RiseFrom b xs → RiseFrom b (up_to k xs)
    front b k [] r = tt
    front b k (x ∷ xs) r = elim (cases_lt k x.0) [
      | inl here ↦ rw (up_to_first k x xs here) tt
      | inr past ↦ rw (up_to_next k x xs past) (r.0, front x.0 k xs r.1)
    ]

-- ---- legs cut at a bound at which an entry ends

pub record Split (f : ℕ → ℕ) (lo hi m : ℕ) (es : List (ℕ × ℕ)) : Type 0 where
  pub front : Legs f lo m (legs_from lo (up_to m es))
  pub back : Legs f m hi (legs_from m (beyond m es))
  pub border : (j : ℕ) → lo ≤ j → j + 1 ≡ m → m < hi → f j ≢ f m

first_differs : (f : ℕ → ℕ) (p m hi : ℕ) (es : List (ℕ × ℕ)) → Differs p (legs_from m es) → Legs f m hi (legs_from m es) → m < hi → f m ≢ p
first_differs f p m hi [] d l lt = absurd (omega (arith, l))
first_differs f p m hi (e ∷ es) d l lt = λ h. d (sym h ∙ l.2 m (omega arith) (omega (arith, l.1)))

cut_differs : (p m b : ℕ) (es : List (ℕ × ℕ)) → Differs p (legs_from b es) → Differs p (legs_from b (up_to m es))
cut_differs p m b [] d = tt
cut_differs p m b (e ∷ es) d = elim (cases_lt m e.0) [
  | inl here ↦ rw (up_to_first m e es here) tt
  | inr past ↦ rw (up_to_next m e es past) d
]

pub split : (f : ℕ → ℕ) (lo hi m : ℕ) (es : List (ℕ × ℕ)) → Legs f lo hi (legs_from lo es) → last_from lo (up_to m es) ≡ m → Split f lo hi m es
split f lo hi m [] l e = record { front = e; back = sym e ∙ l; border = λ j a b c. absurd (omega (arith, a, b, e)) }
split f lo hi m (x ∷ es) l e = elim (cases_lt m x.0) [
  | inl here ↦
      let same : lo ≡ m = sym (ap (last_from lo) (up_to_first m x es here)) ∙ e in
      record {
        front = rw (up_to_first m x es here) same;
        back = rw (beyond_first m x es here) (subst (λ (n : ℕ). Legs f n hi (legs_from n (x ∷ es))) same l);
        border = λ j a b c. absurd (omega (arith, a, b, same));
      }
  | inr past ↦
      let r = split f x.0 hi m es l.4 (sym (ap (last_from lo) (up_to_next m x es past)) ∙ e) in
      record {
        front = rw (up_to_next m x es past) (l.0, l.1, l.2, cut_differs x.1 m x.0 es l.3, r.front);
        back = rw (beyond_next m x es past) r.back;
        border = λ j a b c. elim (cases_lt j x.0) [
          | inl below ↦
              let at : x.0 ≡ m = omega (arith, b, below, past) in
              let here : f j ≡ x.1 = l.2 j a below in
              λ h. first_differs f x.1 x.0 hi es l.3 l.4 (omega (arith, at, c)) (ap f at ∙ sym h ∙ here)
          | inr more ↦ r.border j more b c
        ];
      }
]

-- ---- other entries in place of those between two bounds

pub put : (g h : ℕ → ℕ) (es fr : List (ℕ × ℕ)) (a b : ℕ) → Legs g 0 top (legs_from 0 es) → last_from 0 (up_to a es) ≡ a → last_from 0 (up_to b es) ≡ b → Legs h a b (legs_from a fr)
    → ((k : ℕ) → k < a → h k ≡ g k) → (0 < a → a < top → h a ≡ g a) → ((k : ℕ) → b ≤ k → k < top → h k ≡ g k) → ((j : ℕ) → j + 1 ≡ b → b < top → h j ≡ g j)
    → Legs h 0 top (legs_from 0 (replaced a b fr es))
put g h es fr a b l at_a at_b fresh low border high border' =
    subst (Legs h 0 top) (sym whole) (legs_append h 0 a top _ _ front (legs_append h a b top _ _ fresh back next) first)
  where
    whole : legs_from 0 (replaced a b fr es) ≡ legs_from 0 (up_to a es) ++ (legs_from a fr ++ legs_from b (beyond b es))
    whole =
        legs_from-append 0 (up_to a es) (fr ++ beyond b es)
        ∙ ap (λ n. legs_from 0 (up_to a es) ++ legs_from n (fr ++ beyond b es)) at_a
        ∙ ap (λ (ls : List PlanRange). legs_from 0 (up_to a es) ++ ls) (legs_from-append a fr (beyond b es) ∙ ap (λ n. legs_from a fr ++ legs_from n (beyond b es)) (legs_end h a b fr fresh))

    sa : Split g 0 top a es
    sa = split g 0 top a es l at_a

    sb : Split g 0 top b es
    sb = split g 0 top b es l at_b

    front : Legs h 0 a (legs_from 0 (up_to a es))
    front = legs_as g h 0 a _ (λ k u v. low k v) sa.front

    back : Legs h b top (legs_from b (beyond b es))
    back = legs_as g h b top _ (λ k u v. high k u v) sb.back

    first : (k : ℕ) → 0 ≤ k → k + 1 ≡ a → a < top → h k ≢ h a
    first k u v w = λ e. sa.border k u v w (sym (low k (omega (arith, v))) ∙ e ∙ border (omega (arith, v)) w)

    next : (k : ℕ) → a ≤ k → k + 1 ≡ b → b < top → h k ≢ h b
    next k u v w = λ e. sb.border k (omega arith) v w (sym (border' k v w) ∙ e ∙ high b (omega arith) w)
