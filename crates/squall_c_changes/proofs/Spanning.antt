-- Changes that are found one after another, and written into a room.
use Rattle.std.specs.Prelude.{◌≡◌, ℕ, zero, suc, ◌+◌, ◌<◌, ◌≤◌, ◌==◌, min, Bool, true, false, ◌||◌, ◌&&◌, not, nat_lt, nat_le, if◌then◌else◌, List, [], ◌∷◌, ◌++◌, map, length, take, refl}
use Rattle.std.proofs.Common.{sym, ap, subst, ◌∙◌, set, arith, inl, inr, ◌⊎◌}
use Rattle.std.proofs.lemmas.Bool.{cases_lt, cases_Bool}
use Rattle.std.proofs.lemmas.Bool.Decides.{nat_tests}
use Rattle.std.proofs.lemmas.List.{take_all, length-map, length-take-le, take-map}
use Rattle.std.proofs.Math.Bool.{and-false}
use Rattle.squall_key.specs.Keys.{top}
use Rattle.squall_span.specs.Spans.{Interval, interval, span_has, has, Beyond, IsCanonical, EndsBy, insert_span}
use Rattle.squall_span.specs.SpanLaws.{inside, outside_below, outside_above, has_below, has_first, canonical-insert, has-insert, has-append, canonical-append, ends_by_keys, beyond_by_keys}
use Rattle.squall_c_values.specs.Rooms.{over}
use Rattle.squall_c_values.specs.declared.spans.CSpan.{CSpan}
use Rattle.squall_plan.specs.Ranges.{owner_of}
use Rattle.squall_c_changes.specs.Walks.{WalkValue, walk_at, IsNextChange}
use Rattle.squall_c_changes.specs.Changes.{differs, AreChanges, PutsChanges, given, keys_of, last_end, reached}
use Rattle.squall_c_values.specs.Values.{c_span}

-- ---- there are changes between any two ranks

abbrev changes_upto : (f g : ℕ → ℕ) (lo n : ℕ) → List Interval
changes_upto f g lo zero = []
changes_upto f g lo (suc n) = if nat_le lo n && differs f g n then insert_span (interval n (suc n)) (changes_upto f g lo n) else changes_upto f g lo n

upto_cases : (f g : ℕ → ℕ) (lo n : ℕ) (P : List Interval → Type 0) → ((nat_le lo n && differs f g n) ≡ true → P (insert_span (interval n (suc n)) (changes_upto f g lo n))) → ((nat_le lo n && differs f g n) ≡ false → P (changes_upto f g lo n)) → P (changes_upto f g lo (suc n))
upto_cases f g lo n P if_so if_not = elim (cases_Bool (nat_le lo n && differs f g n)) [
  | inl is ↦ subst P (sym (ap (λ b. if b then insert_span (interval n (suc n)) (changes_upto f g lo n) else changes_upto f g lo n) is)) (if_so is)
  | inr is ↦ subst P (sym (ap (λ b. if b then insert_span (interval n (suc n)) (changes_upto f g lo n) else changes_upto f g lo n) is)) (if_not is)
]

same_below : (lo n k : ℕ) → k < n → span_has (interval lo n) k ≡ span_has (interval lo (suc n)) k
same_below lo n k below = grind (arith, nat_tests)

top_within : (lo n : ℕ) → span_has (interval lo (suc n)) n ≡ nat_le lo n
top_within lo n = grind (arith, nat_tests)

-- the changes up to a rank, by those up to the rank before
are_upto : (f g : ℕ → ℕ) (lo n : ℕ) → AreChanges f g lo n (changes_upto f g lo n)
are_upto f g lo zero = record {
  longest = tt;
  keys = λ k. sym (ap (λ b. b && differs f g k) (outside_above (interval lo 0) k (omega arith)));
}
are_upto f g lo (suc n) =
    let before = are_upto f g lo n in
    upto_cases f g lo n (AreChanges f g lo (suc n))
    (λ is. record {
      longest = canonical-insert (interval n (suc n)) (changes_upto f g lo n) (omega arith) before.longest;
      keys = λ k. has-insert (interval n (suc n)) (changes_upto f g lo n) k (omega arith) before.longest ∙ with_last k (has (changes_upto f g lo n) k) is (before.keys k);
    })
    (λ isnt. record { longest = before.longest; keys = λ k. before.keys k ∙ without_last k isnt })
  where
    with_last : (k : ℕ) (has_k : Bool) → (nat_le lo n && differs f g n) ≡ true → has_k ≡ (span_has (interval lo n) k && differs f g k)
        → (span_has (interval n (suc n)) k || has_k) ≡ (span_has (interval lo (suc n)) k && differs f g k)
    with_last k has_k is e = elim (cases_lt k n) [
      | inl below ↦ ap (λ b. b || has_k) (outside_below (interval n (suc n)) k below) ∙ e ∙ ap (λ b. b && differs f g k) (same_below lo n k below)
      | inr from ↦ elim (cases_lt n k) [
        | inl above ↦ ap (λ b. b || has_k) (outside_above (interval n (suc n)) k above) ∙ e ∙ ap (λ b. b && differs f g k) (outside_above (interval lo n) k from ∙ sym (outside_above (interval lo (suc n)) k above))
        | inr upto ↦ (let here : n ≡ k = omega (arith, from, upto) in
            ap (λ b. b || has_k) (inside (interval n (suc n)) k from (omega (arith, upto))) ∙ sym (ap (λ m. span_has (interval lo (suc n)) m && differs f g m) (sym here) ∙ ap (λ b. b && differs f g n) (top_within lo n) ∙ is))
      ]
    ]

    without_last : (k : ℕ) → (nat_le lo n && differs f g n) ≡ false → (span_has (interval lo n) k && differs f g k) ≡ (span_has (interval lo (suc n)) k && differs f g k)
    without_last k isnt = elim (cases_lt k n) [
      | inl below ↦ ap (λ b. b && differs f g k) (same_below lo n k below)
      | inr from ↦ elim (cases_lt n k) [
        | inl above ↦ ap (λ b. b && differs f g k) (outside_above (interval lo n) k from ∙ sym (outside_above (interval lo (suc n)) k above))
        | inr upto ↦ (let here : n ≡ k = omega (arith, from, upto) in
            ap (λ b. b && differs f g k) (outside_above (interval lo n) k from) ∙ sym (ap (λ m. span_has (interval lo (suc n)) m && differs f g m) (sym here) ∙ ap (λ b. b && differs f g n) (top_within lo n) ∙ isnt))
      ]
    ]

-- ---- changes up to a rank, and those from it on

two_parts : (f g : ℕ → ℕ) (lo at hi k : ℕ) → lo ≤ at → at ≤ hi → ((span_has (interval lo at) k && differs f g k) || (span_has (interval at hi) k && differs f g k)) ≡ (span_has (interval lo hi) k && differs f g k)
two_parts f g lo at hi k from to = elim (cases_lt k at) [
  | inl below ↦ ap (λ b. (span_has (interval lo at) k && differs f g k) || (b && differs f g k)) (outside_below (interval at hi) k below) ∙ or_none (span_has (interval lo at) k && differs f g k) ∙ ap (λ b. b && differs f g k) (same_side lo at hi k below to)
  | inr above ↦ ap (λ b. (b && differs f g k) || (span_has (interval at hi) k && differs f g k)) (outside_above (interval lo at) k above) ∙ ap (λ b. b && differs f g k) (other_side lo at hi k above from)
]
  where
    or_none : (b : Bool) → (b || false) ≡ b
    or_none true = refl
    or_none false = refl

    same_side : (lo at hi k : ℕ) → k < at → at ≤ hi → span_has (interval lo at) k ≡ span_has (interval lo hi) k
    same_side lo at hi k below to = grind (arith, nat_tests)

    other_side : (lo at hi k : ℕ) → at ≤ k → lo ≤ at → span_has (interval at hi) k ≡ span_has (interval lo hi) k
    other_side lo at hi k above from = grind (arith, nat_tests)

-- the walk found the changes up to a rank, where it goes on with a key that is none of them
pub record Found (f g : ℕ → ℕ) (lo at hi : ℕ) (done : List Interval) : Type 0 where
  pub from : lo ≤ at
  pub within : at ≤ hi
  pub changes : AreChanges f g lo at done
  pub gap : (done ≡ []) ⊎ (at < hi → differs f g at ≡ false)

no_change_at : (f g : ℕ → ℕ) (at hi : ℕ) (rest : List Interval) → AreChanges f g at hi rest → (at < hi → differs f g at ≡ false) → Beyond at rest
no_change_at f g at hi rest are gap = beyond_by_keys at rest are.longest (λ k upto. are.keys k ∙ elim (cases_lt k at) [
  | inl below ↦ ap (λ b. b && differs f g k) (outside_below (interval at hi) k below)
  | inr here ↦ elim (cases_lt k hi) [
    | inl inside_hi ↦ (let e : at ≡ k = omega (arith, upto, here) in ap (λ b. span_has (interval at hi) k && b) (ap (differs f g) (sym e) ∙ gap (omega (arith, e, inside_hi))) ∙ and-false (span_has (interval at hi) k))
    | inr past ↦ ap (λ b. b && differs f g k) (outside_above (interval at hi) k past)
  ]
])

ends_at : (f g : ℕ → ℕ) (lo at : ℕ) (done : List Interval) → AreChanges f g lo at done → EndsBy at done
ends_at f g lo at done are = ends_by_keys at done are.longest (λ k from. are.keys k ∙ ap (λ b. b && differs f g k) (outside_above (interval lo at) k from))

-- what was found, and changes from there on, are changes
pub joined_changes : (f g : ℕ → ℕ) (lo at mid hi : ℕ) (done rest : List Interval) → Found f g lo at hi done → at ≤ mid → mid ≤ hi → AreChanges f g at mid rest → AreChanges f g lo mid (done ++ rest)
joined_changes f g lo at mid hi [] rest found le high are = record {
  longest = are.longest;
  keys = λ k. ap (λ b. b || has rest k) (found.changes.keys k) ∙ ap (λ b. (span_has (interval lo at) k && differs f g k) || b) (are.keys k) ∙ two_parts f g lo at mid k found.from le;
}
joined_changes f g lo at mid hi (d ∷ ds) rest found le high are = record {
  longest = canonical-append at (d ∷ ds) rest found.changes.longest are.longest (ends_at f g lo at (d ∷ ds) found.changes) (no_change_at f g at mid rest are (gap_here found.gap));
  keys = λ k. has-append (d ∷ ds) rest k ∙ ap (λ b. b || has rest k) (found.changes.keys k) ∙ ap (λ b. (span_has (interval lo at) k && differs f g k) || b) (are.keys k) ∙ two_parts f g lo at mid k found.from le;
}
  where
    gap_here : ((d ∷ ds ≡ []) ⊎ (at < hi → differs f g at ≡ false)) → at < mid → differs f g at ≡ false
    gap_here (inl none) below = absurd (let bad : ⊥ = cc in bad)
    gap_here (inr same) below = same (omega (arith, below, high))

-- ---- one more change is found

-- no key from a rank on is a change before the next one
one_change : (f g : ℕ → ℕ) (at lo hi : ℕ) → at ≤ lo → lo < hi → ((k : ℕ) → at ≤ k → k < lo → differs f g k ≡ false) → ((k : ℕ) → lo ≤ k → k < hi → differs f g k ≡ true) → AreChanges f g at hi (interval lo hi ∷ [])
one_change f g at lo hi from some before keys = record {
  longest = (some, tt, tt);
  keys = λ k. elim (cases_lt k lo) [
    | inl below ↦ ap (λ b. b || false) (outside_below (interval lo hi) k below) ∙ sym (elim (cases_lt k at) [
      | inl under ↦ ap (λ b. b && differs f g k) (outside_below (interval at hi) k under)
      | inr over_at ↦ ap (λ b. span_has (interval at hi) k && b) (before k over_at below) ∙ and-false (span_has (interval at hi) k)
    ])
    | inr above ↦ elim (cases_lt k hi) [
      | inl within ↦ ap (λ b. b || false) (inside (interval lo hi) k above within) ∙ sym (ap (λ b. b && differs f g k) (inside (interval at hi) k (omega (arith, from, above)) within) ∙ keys k above within)
      | inr past ↦ ap (λ b. b || false) (outside_above (interval lo hi) k past) ∙ sym (ap (λ b. b && differs f g k) (outside_above (interval at hi) k past))
    ]
  ];
}

-- ---- the room

-- so many changes are written
pub record Put (f g : ℕ → ℕ) (lo at hi : ℕ) (old : List CSpan) (count : ℕ) (now : List CSpan) : Type 0 where
  pub done : List Interval
  pub found : Found f g lo at hi done
  pub counted : length done ≡ count
  pub fits : count ≤ length old
  pub is : now ≡ over (map c_span done) old

pub put_none : (f g : ℕ → ℕ) (lo hi : ℕ) (old : List CSpan) → lo ≤ hi → Put f g lo lo hi old 0 old
put_none f g lo hi old le = record {
  done = [];
  found = record {
    from = omega arith;
    within = le;
    changes = record { longest = tt; keys = λ k. sym (ap (λ b. b && differs f g k) (nowhere k)) };
    gap = inl refl;
  };
  counted = refl;
  fits = omega arith;
  is = refl;
}
  where
    nowhere : (k : ℕ) → span_has (interval lo lo) k ≡ false
    nowhere k = grind (arith, nat_tests)

set_over : (xs ys : List CSpan) (y : CSpan) → length xs < length ys → set (over xs ys) (length xs) y ≡ over (xs ++ y ∷ []) ys
set_over [] [] y lt = absurd (omega (arith, lt))
set_over [] (b ∷ ys) y lt = refl
set_over (a ∷ xs) [] y lt = absurd (omega (arith, lt))
set_over (a ∷ xs) (b ∷ ys) y lt = ap (λ (zs : List CSpan). a ∷ zs) (set_over xs ys y (omega (arith, lt)))

map_more : (xs : List Interval) (s : Interval) → map c_span (xs ++ s ∷ []) ≡ map c_span xs ++ c_span s ∷ []
map_more [] s = refl
map_more (x ∷ xs) s = ap (λ (zs : List CSpan). c_span x ∷ zs) (map_more xs s)

length_more : (xs : List Interval) (s : Interval) → length (xs ++ s ∷ []) ≡ length xs + 1
length_more [] s = refl
length_more (x ∷ xs) s = (let more = length_more xs s in omega (arith, more))

-- one more is written
pub put_more : (f g : ℕ → ℕ) (lo at hi : ℕ) (s : CSpan) (old : List CSpan) (count : ℕ) (now : List CSpan) → Put f g lo at hi old count now → count < length old → at ≤ s.lo → s.lo < s.hi → s.hi ≤ hi
    → ((k : ℕ) → at ≤ k → k < s.lo → differs f g k ≡ false) → ((k : ℕ) → s.lo ≤ k → k < s.hi → differs f g k ≡ true) → (s.hi < hi → differs f g s.hi ≡ false)
    → Put f g lo s.hi hi old (count + 1) (set now count s)
put_more f g lo at hi s old count now p room from some high before keys after =
    let mapped = length-map p.done c_span in
    record {
      done = p.done ++ interval s.lo s.hi ∷ [];
      found = record {
        from = omega (arith, p.found.from, from, some);
        within = high;
        changes = joined_changes f g lo at s.hi hi p.done (interval s.lo s.hi ∷ []) p.found (omega (arith, from, some)) high (one_change f g at s.lo s.hi from some before keys);
        gap = inr after;
      };
      counted = length_more p.done (interval s.lo s.hi) ∙ ap (λ n. n + 1) p.counted;
      fits = omega (arith, room);
      is =
          ap (λ zs. set zs count s) p.is ∙ ap (λ n. set (over (map c_span p.done) old) n s) (sym (mapped ∙ p.counted))
          ∙ set_over (map c_span p.done) old s (omega (arith, mapped, p.counted, room))
          ∙ ap (λ zs. over zs old) (sym (map_more p.done (interval s.lo s.hi)));
    }

-- there is no more
pub put_all : (f g : ℕ → ℕ) (lo at hi : ℕ) (old : List CSpan) (count : ℕ) (now : List CSpan) → Put f g lo at hi old count now → ((k : ℕ) → at ≤ k → k < hi → differs f g k ≡ false) → PutsChanges f g lo hi old now count
put_all f g lo at hi old count now p none =
    let mapped = length-map p.done c_span in
    let all = take_all (length old) (map c_span p.done) (omega (arith, mapped, p.counted, p.fits)) in
    record {
      all = p.done;
      changes = record { longest = p.found.changes.longest; keys = λ k. p.found.changes.keys k ∙ or_rest k ∙ two_parts f g lo at hi k p.found.from p.found.within };
      put = p.is ∙ ap (λ zs. over zs old) (sym all);
      counted = sym (ap length all ∙ mapped ∙ p.counted);
    }
  where
    or_false : (b : Bool) → b ≡ (b || false)
    or_false true = refl
    or_false false = refl

    rest_none : (k : ℕ) → (span_has (interval at hi) k && differs f g k) ≡ false
    rest_none k = elim (cases_lt k at) [
      | inl below ↦ ap (λ b. b && differs f g k) (outside_below (interval at hi) k below)
      | inr from ↦ elim (cases_lt k hi) [
        | inl within ↦ ap (λ b. span_has (interval at hi) k && b) (none k from within) ∙ and-false (span_has (interval at hi) k)
        | inr past ↦ ap (λ b. b && differs f g k) (outside_above (interval at hi) k past)
      ]
    ]

    or_rest : (k : ℕ) → (span_has (interval lo at) k && differs f g k) ≡ ((span_has (interval lo at) k && differs f g k) || (span_has (interval at hi) k && differs f g k))
    or_rest k = or_false (span_has (interval lo at) k && differs f g k) ∙ ap (λ b. (span_has (interval lo at) k && differs f g k) || b) (sym (rest_none k))

take_front : (xs ys : List CSpan) (n : ℕ) → length xs ≡ n → take n (xs ++ ys) ≡ xs
take_front xs ys n e = subst (λ m. take m (xs ++ ys) ≡ xs) e (front xs ys)
  where
    front : (xs ys : List CSpan) → take (length xs) (xs ++ ys) ≡ xs
    front [] ys = refl
    front (x ∷ xs) ys = ap (λ (zs : List CSpan). x ∷ zs) (front xs ys)

map_both : (xs ys : List Interval) → map c_span (xs ++ ys) ≡ map c_span xs ++ map c_span ys
map_both [] ys = refl
map_both (x ∷ xs) ys = ap (λ (zs : List CSpan). c_span x ∷ zs) (map_both xs ys)

-- the room is full
pub put_full : (f g : ℕ → ℕ) (lo at hi : ℕ) (old : List CSpan) (count : ℕ) (now : List CSpan) → Put f g lo at hi old count now → length old ≤ count → PutsChanges f g lo hi old now count
put_full f g lo at hi old count now p full =
    let rest = changes_upto f g at hi in
    let mapped = length-map p.done c_span in
    let fits = p.fits in
    let same : take (length old) (map c_span (p.done ++ rest)) ≡ map c_span p.done =
    ap (take (length old)) (map_both p.done rest) ∙ take_front (map c_span p.done) (map c_span rest) (length old) (omega (arith, mapped, p.counted, fits, full)) in
    record {
      all = p.done ++ rest;
      changes = joined_changes f g lo at hi hi p.done rest p.found p.found.within (omega arith) (are_upto f g at hi);
      put = p.is ∙ ap (λ zs. over zs old) (sym same);
      counted = sym (ap length same ∙ mapped ∙ p.counted);
    }

-- ---- the walk

-- one more change of a walk is written
pub put_next : (w : WalkValue) (reached_at at : ℕ) (s : CSpan) (old : List CSpan) (count : ℕ) (now : List CSpan) → Put (owner_of w.old_table) (owner_of w.new_table) w.at reached_at w.hi old count now → count < length old
    → IsNextChange (walk_at w reached_at) s at → Put (owner_of w.old_table) (owner_of w.new_table) w.at at w.hi old (count + 1) (set now count s)
put_next w reached_at at s old count now p room next =
    subst (λ a. Put (owner_of w.old_table) (owner_of w.new_table) w.at a w.hi old (count + 1) (set now count s)) (sym next.ends)
    (put_more (owner_of w.old_table) (owner_of w.new_table) w.at reached_at w.hi s old count now p room next.from next.some next.within next.before next.keys next.after)

-- from the top on no routes differ
pub past_the_top : (f g : ℕ → ℕ) → ((k : ℕ) → top ≤ k → f k ≡ 0) → ((k : ℕ) → top ≤ k → g k ≡ 0) → (k : ℕ) → top ≤ k → differs f g k ≡ false
past_the_top f g none none' k past = ap (λ a. not (a == g k)) (none k past) ∙ ap (λ b. not (0 == b)) (none' k past)

-- nothing is written if no key differs
pub puts_none : (f g : ℕ → ℕ) (lo hi : ℕ) (old : List CSpan) → ((k : ℕ) → lo ≤ k → k < hi → differs f g k ≡ false) → PutsChanges f g lo hi old old 0
puts_none f g lo hi old same =
    let none : take (length old) (map c_span []) ≡ [] = take_all (length old) [] (omega arith) in
    record {
      all = [];
      changes = record {
        longest = tt;
        keys = λ k. sym (elim (cases_lt k lo) [
          | inl below ↦ ap (λ b. b && differs f g k) (outside_below (interval lo hi) k below)
          | inr from ↦ elim (cases_lt k hi) [
            | inl within ↦ ap (λ b. span_has (interval lo hi) k && b) (same k from within) ∙ and-false (span_has (interval lo hi) k)
            | inr past ↦ ap (λ b. b && differs f g k) (outside_above (interval lo hi) k past)
          ]
        ]);
      };
      put = sym (ap (λ zs. over zs old) none);
      counted = sym (ap length none);
    }

-- no rank from the top on is a key
pub puts_up_to_the_top : (f g : ℕ → ℕ) (lo hi : ℕ) (old new : List CSpan) (count : ℕ) → ((k : ℕ) → top ≤ k → f k ≡ 0) → ((k : ℕ) → top ≤ k → g k ≡ 0) → PutsChanges f g lo (min hi top) old new count → PutsChanges f g lo hi old new count
puts_up_to_the_top f g lo hi old new count none none' p = record {
  all = p.all;
  changes = record {
    longest = p.changes.longest;
    keys = λ k. p.changes.keys k ∙ elim (cases_lt k top) [
      | inl below ↦ ap (λ b. b && differs f g k) (same_side k below)
      | inr past ↦ ap (λ b. b && differs f g k) (outside_above (interval lo (min hi top)) k (omega (arith, past)))
          ∙ sym (ap (λ b. span_has (interval lo hi) k && b) (past_the_top f g none none' k past) ∙ and-false (span_has (interval lo hi) k))
    ];
  };
  put = p.put;
  counted = p.counted;
}
  where
    same_side : (k : ℕ) → k < top → span_has (interval lo (min hi top)) k ≡ span_has (interval lo hi) k
    same_side k below = grind (arith, nat_tests)

-- ---- what the written spans tell

-- a key that no span has is in none of the first ones
first_none : (n k : ℕ) (ss : List Interval) → has ss k ≡ false → has (take n ss) k ≡ false
first_none zero k ss none = refl
first_none (suc n) k [] none = refl
first_none (suc n) k (s ∷ ss) none = elim (cases_Bool (span_has s k)) [
  | inl is ↦ (let bad : true ≡ false = sym (ap (λ b. b || has ss k) is) ∙ none in absurd (let wrong : ⊥ = cc in wrong))
  | inr isnt ↦ ap (λ b. b || has (take n ss) k) isnt ∙ first_none n k ss (sym (ap (λ b. b || has ss k) isnt) ∙ none)
]

-- up to the end of the last of them, the first spans tell what all tell
pub first_tell : (n lo k : ℕ) (ss : List Interval) → IsCanonical ss → lo ≤ k → k < last_end lo (map c_span (take n ss)) → has (take n ss) k ≡ has ss k
first_tell zero lo k ss canonical from below = absurd (omega (arith, from, below))
first_tell (suc n) lo k [] canonical from below = refl
first_tell (suc n) lo k (s ∷ ss) canonical from below = elim (cases_lt k s.hi) [
  | inl within ↦ (let none = has_below s.hi k ss canonical.1 canonical.2 (omega (arith, within)) in
      ap (λ b. span_has s k || b) (first_none n k ss none ∙ sym none))
  | inr past ↦ ap (λ b. span_has s k || b) (first_tell n s.hi k ss canonical.2 past below)
]

-- the last span ends by hi
last_within : (n lo hi : ℕ) (ss : List Interval) → lo ≤ hi → EndsBy hi ss → last_end lo (map c_span (take n ss)) ≤ hi
last_within zero lo hi ss le ends = le
last_within (suc n) lo hi [] le ends = le
last_within (suc n) lo hi (s ∷ ss) le ends = last_within n s.hi hi ss ends.0 ends.1

-- spans without a key end nowhere
none_last : (n lo k : ℕ) (ss : List Interval) → IsCanonical ss → ((j : ℕ) → has ss j ≡ false) → lo ≤ k → k < last_end lo (map c_span (take n ss)) → ⊥
none_last zero lo k ss canonical none from below = omega (arith, from, below)
none_last (suc n) lo k [] canonical none from below = omega (arith, from, below)
none_last (suc n) lo k (s ∷ ss) canonical none from below = let bad : true ≡ false = sym (has_first s ss canonical.0) ∙ none s.lo in cc

back_again : (ss : List Interval) → keys_of (map c_span ss) ≡ ss
back_again [] = refl
back_again (s ∷ ss) = ap (λ (zs : List Interval). s ∷ zs) (back_again ss)

is_below : (a b : ℕ) → a < b → nat_lt a b ≡ true
is_below a b h = grind (arith, nat_tests)

is_not_below : (a b : ℕ) → b ≤ a → nat_lt a b ≡ false
is_not_below a b h = grind (arith, nat_tests)

pub given_tell : (f g : ℕ → ℕ) (lo hi : ℕ) (old new : List CSpan) (count k : ℕ) → PutsChanges f g lo hi old new count → lo ≤ k → k < reached lo hi old new count → has (keys_of (given new count)) k ≡ differs f g k
given_tell f g lo hi old new count k p from below =
    let n = length old in
    let counted = p.counted in
    let written : given new count ≡ map c_span (take n p.all) =
    ap (take count) p.put ∙ take_front (take n (map c_span p.all)) _ count (sym counted) ∙ take-map c_span n p.all in
    let spans : keys_of (given new count) ≡ take n p.all = ap keys_of written ∙ back_again (take n p.all) in
    ap (λ ss. has ss k) spans
    ∙ elim (cases_lt count n) [
      | inl more ↦ (let all = length-map p.all c_span in
          let short : length p.all ≤ n = few (length p.all) n count all (counted) more in
          let high : k < hi = subst (λ b. k < (if b then hi else last_end lo (given new count))) (is_below count n more) below in
          ap (λ ss. has ss k) (take_all n p.all short) ∙ p.changes.keys k ∙ ap (λ b. b && differs f g k) (inside (interval lo hi) k from high))
      | inr full ↦ (let upto : k < last_end lo (given new count) = subst (λ b. k < (if b then hi else last_end lo (given new count))) (is_not_below count n full) below in
          let upto' : k < last_end lo (map c_span (take n p.all)) = subst (λ ss. k < last_end lo ss) written upto in
          first_tell n lo k p.all p.changes.longest from upto' ∙ p.changes.keys k ∙ ap (λ b. b && differs f g k) (within_hi upto'))
    ]
  where
    few : (a n count : ℕ) → length (map c_span p.all) ≡ a → count ≡ length (take n (map c_span p.all)) → count < n → a ≤ n
    few a n count same is lt = elim (cases_lt a (suc n)) [
      | inl small ↦ omega (arith, small)
      | inr large ↦ (let all = length-take-le n (map c_span p.all) (omega (arith, same, large)) in absurd (omega (arith, all, is, lt)))
    ]

    nowhere : (j : ℕ) → hi ≤ lo → span_has (interval lo hi) j ≡ false
    nowhere j past = grind (arith, nat_tests)

    within_hi : k < last_end lo (map c_span (take (length old) p.all)) → span_has (interval lo hi) k ≡ true
    within_hi upto = elim (cases_lt lo hi) [
      | inl some ↦ (let last = last_within (length old) lo hi p.all (omega (arith, some)) (ends_at f g lo hi p.all p.changes) in inside (interval lo hi) k from (omega (arith, upto, last)))
      | inr past ↦ absurd (none_last (length old) lo k p.all p.changes.longest (λ j. p.changes.keys j ∙ ap (λ b. b && differs f g j) (nowhere j past)) from upto)
    ]

-- ---- routes that differ for each key

-- if the routes of each key differ, the changes are all keys
pub all_differ : (f g : ℕ → ℕ) (lo hi : ℕ) → ((k : ℕ) → differs f g k ≡ nat_lt k top) → lo < min hi top → AreChanges f g lo hi (interval lo (min hi top) ∷ [])
all_differ f g lo hi each some = record {
  longest = (some, tt, tt);
  keys = λ k. or_none (span_has (interval lo (min hi top)) k) ∙ both k ∙ ap (λ b. span_has (interval lo hi) k && b) (sym (each k));
}
  where
    or_none : (b : Bool) → (b || false) ≡ b
    or_none true = refl
    or_none false = refl

    both : (k : ℕ) → span_has (interval lo (min hi top)) k ≡ (span_has (interval lo hi) k && nat_lt k top)
    both k = grind (arith, nat_tests)

none_between : (f g : ℕ → ℕ) (lo hi : ℕ) → ((k : ℕ) → differs f g k ≡ nat_lt k top) → min hi top ≤ lo → (k : ℕ) → lo ≤ k → k < hi → differs f g k ≡ false
none_between f g lo hi each none k from below = each k ∙ is_not_below k top (omega (arith, none, from, below))

pub each_key_none : (f g : ℕ → ℕ) (lo hi : ℕ) (old : List CSpan) → ((k : ℕ) → differs f g k ≡ nat_lt k top) → min hi top ≤ lo → PutsChanges f g lo hi old old 0
each_key_none f g lo hi old each none = puts_none f g lo hi old (none_between f g lo hi each none)

pub each_key_no_room : (f g : ℕ → ℕ) (lo hi : ℕ) (old : List CSpan) → ((k : ℕ) → differs f g k ≡ nat_lt k top) → lo < min hi top → length old ≡ 0 → PutsChanges f g lo hi old old 0
each_key_no_room f g lo hi (x ∷ old) each some none = absurd (omega (arith, none))
each_key_no_room f g lo hi [] each some none = record {
  all = interval lo (min hi top) ∷ [];
  changes = all_differ f g lo hi each some;
  put = refl;
  counted = refl;
}

pub each_key_put : (f g : ℕ → ℕ) (lo hi end : ℕ) (old : List CSpan) → ((k : ℕ) → differs f g k ≡ nat_lt k top) → end ≡ min hi top → lo < end → 0 < length old → PutsChanges f g lo hi old (set old 0 (record { lo = lo; hi = end })) 1
each_key_put f g lo hi end [] each is some room = absurd (omega (arith, room))
each_key_put f g lo hi end (x ∷ old) each is some room =
    let one : take (suc (length old)) (map c_span (interval lo end ∷ [])) ≡ map c_span (interval lo end ∷ []) = take_all (suc (length old)) (map c_span (interval lo end ∷ [])) (omega arith) in
    record {
      all = interval lo end ∷ [];
      changes = subst (λ e. AreChanges f g lo hi (interval lo e ∷ [])) (sym is) (all_differ f g lo hi each (subst (λ e. lo < e) is some));
      put = sym (ap (λ zs. over zs (x ∷ old)) one);
      counted = sym (ap length one);
    }
