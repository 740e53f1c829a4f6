-- Moves by sub-plan and partition: what two binary searches find, and which moves those are.
use Rattle.std.proofs.Common.{◌≡◌, ℕ, zero, suc, ◌+◌, ◌*◌, ◌-◌, ◌<◌, ◌≤◌, Bool, true, false, eqb, ltb, leb, List, [], ◌∷◌, length, get_or, take, drop, map, refl, sym, ap, ◌∙◌, arith, inl, inr}
use Rattle.std.specs.Prelude.{filter, ◌&&◌, ◌||◌}
use Rattle.std.specs.List.{All, list_any, AllByRecursion, dedup, dedup_from}
use Rattle.std.specs.List.Sorted.{IsNonDecreasingBy, IsPartitionPoint}
use Rattle.std.proofs.lemmas.Bool.{cases_Bool, cases_lt, cases_eq, ltb-true, ltb-false, lt-ltb, le-ltb, le-leb, lt-leb, eq-eqb, ne_eqb, eqb-true, and_right}
use Rattle.std.proofs.lemmas.List.{get_or-drop, length-drop, take_rest}
use Rattle.std.proofs.lemmas.List.Sorted.{list_any-IsPermutation, All-permutation, IsNonDecreasingBy-drop}
use Rattle.std.proofs.lemmas.List.Kept.{IsNonDecreasingBy-filter}
use Rattle.std.proofs.lemmas.List.Elements.{filter_passes}
use Rattle.squall_key.specs.Keys.{part_limit}
use Rattle.squall_course.specs.declared.moving.Move.{Move}
use Rattle.squall_plan.specs.declared.range.PlanRange.{PlanRange}
use Rattle.squall_plan.specs.Ranges.{AreRanges}
use Rattle.squall_plan.specs.PlanLaws.{are_parts, owner_low}
use Rattle.squall_course.specs.Change.{Change, ArePlans}
use Rattle.squall_course.specs.Moves.{goes_to, move_has, in_moves, is_incoming, is_outgoing, moves_of, receivers_of, IsMove, AreMoves}
use Rattle.squall_course.specs.Steps.{Up, leaves, place, leaving_place, arriving_place, IsLow, AreByPlace, AreFiled, AreReceivers}
use Rattle.squall_course.proofs.Rising.{is_in}
use Rattle.squall_course.proofs.Moved.{are_moves, first_key}
use Rattle.squall_course.proofs.Gathered.{incoming_keys, outgoing_keys}
use Rattle.squall_course.proofs.Rows.{any_dedup}
use Rattle.squall_course.proofs.Received.{same_number, receivers_are}

-- ---- what lies between two bounds

-- the number is from a bound on, below another
abbrev pub between : ℕ → ℕ → ℕ → Bool
between a b n = leb a n && ltb n b

pub between-inside : (a b n : ℕ) → a ≤ n → n < b → between a b n ≡ true
between-inside a b n le lt = rw (le-leb a n le, lt-ltb n b lt) refl

pub between-below : (a b n : ℕ) → n < a → between a b n ≡ false
between-below a b n lt = rw (lt-leb a n lt) refl

pub between-above : (a b n : ℕ) → b ≤ n → between a b n ≡ false
between-above a b n le = and_right (leb a n) (ltb n b) (le-ltb n b le)

-- those that pass, if none of the first does
passed_later : {X : Type 0} (p : X → Bool) (xs : List X) (i : ℕ) → ((j : ℕ) (d : X) → j < i → j < length xs → p (get_or xs j d) ≡ false) → filter p xs ≡ filter p (drop i xs)
passed_later p xs zero below = refl
passed_later p [] (suc i) below = refl
passed_later p (x ∷ xs) (suc i) below = rw (below 0 x (omega arith) (omega arith)) (passed_later p xs i (λ j d lt in'. below (suc j) d (omega arith) (omega arith)))

none_passes : {X : Type 0} (p : X → Bool) (xs : List X) → ((j : ℕ) (d : X) → j < length xs → p (get_or xs j d) ≡ false) → filter p xs ≡ []
none_passes p [] out = refl
none_passes p (x ∷ xs) out = rw (out 0 x (omega arith)) (none_passes p xs (λ j d lt. out (suc j) d (omega arith)))

-- those that pass, if the first do and no others
passed_first : {X : Type 0} (p : X → Bool) (xs : List X) (n : ℕ) → ((j : ℕ) (d : X) → j < n → j < length xs → p (get_or xs j d) ≡ true) → ((j : ℕ) (d : X) → n ≤ j → j < length xs → p (get_or xs j d) ≡ false) → filter p xs ≡ take n xs
passed_first p xs zero pass fail = none_passes p xs (λ j d lt. fail j d (omega arith) lt)
passed_first p [] (suc n) pass fail = refl
passed_first {X} p (x ∷ xs) (suc n) pass fail = rw (pass 0 x (omega arith) (omega arith)) (ap (λ (l : List X). x ∷ l) (passed_first p xs n (λ j d lt in'. pass (suc j) d (omega arith) (omega arith)) (λ j d ge lt. fail (suc j) d (omega arith) (omega arith))))

pub rest_rises : {X : Type 0} (n : X → ℕ) (xs : List X) (i : ℕ) → IsNonDecreasingBy n xs → IsNonDecreasingBy n (take (length xs - i) (drop i xs))
rest_rises n xs i s = rw (take_rest xs i) (IsNonDecreasingBy-drop n i xs s)

-- the slice by two binary searches
pub slice_is : {X : Type 0} (n : X → ℕ) (a b : ℕ) (xs : List X) (i k : ℕ) → i ≤ length xs
    → IsPartitionPoint (λ x. ltb (n x) a ≡ true) (λ x. ltb (n x) a ≡ false) xs i
    → IsPartitionPoint (λ x. ltb (n x) b ≡ true) (λ x. ltb (n x) b ≡ false) (take (length xs - i) (drop i xs)) k
    → take k (take (length xs - i) (drop i xs)) ≡ filter (λ x. between a b (n x)) xs
slice_is {X} n a b xs i k within p q =
    let q1 = rw (take_rest xs i) at q in
    let at_least : (j : ℕ) (d : X) → j < length (drop i xs) → a ≤ n (get_or (drop i xs) j d) = λ j d lt. rw get_or-drop (ltb-false _ _ (p.1 (i + j) d (omega arith) (omega (arith, lt, within, length-drop i xs)))) in
    rw (take_rest xs i) (sym (
    passed_later (λ x. between a b (n x)) xs i (λ j d lt in'. between-below a b (n (get_or xs j d)) (ltb-true _ _ (p.0 j d (omega arith) lt)))
    ∙ passed_first (λ x. between a b (n x)) (drop i xs) k
    (λ j d lt in'. between-inside a b (n (get_or (drop i xs) j d)) (at_least j d in') (ltb-true _ _ (q1.0 j d (omega arith) lt)))
    (λ j d ge lt. between-above a b (n (get_or (drop i xs) j d)) (ltb-false _ _ (q1.1 j d ge lt)))))

-- ---- which moves those are

one_place : (s p t q : ℕ) → p < part_limit → q < part_limit → between (place s p) (place s p + 1) (place t q) ≡ (eqb t s && eqb q p)
one_place s p t q low low2 = elim (cases_eq t s) [
  | inr ne ↦ rw (ne_eqb t s ne) (elim (cases_lt t s) [
    | inl lt ↦ between-below (place s p) (place s p + 1) (place t q) (omega (arith, lt, low2))
    | inr le ↦ between-above (place s p) (place s p + 1) (place t q) (omega (arith, le, ne, low))
  ])
  | inl same ↦ rw (eq-eqb t s same) (elim (cases_eq q p) [
    | inl is ↦ rw (eq-eqb q p is) (between-inside (place s p) (place s p + 1) (place t q) (omega (arith, same, is)) (omega (arith, same, is)))
    | inr ne ↦ rw (ne_eqb q p ne) (elim (cases_lt q p) [
      | inl lt ↦ between-below (place s p) (place s p + 1) (place t q) (omega (arith, same, lt))
      | inr le ↦ between-above (place s p) (place s p + 1) (place t q) (omega (arith, same, le, ne))
    ])
  ])
]

one_subplan : (s t q : ℕ) → q < part_limit → between (s * part_limit) (s * part_limit + part_limit) (place t q) ≡ eqb t s
one_subplan s t q low = elim (cases_eq t s) [
  | inl same ↦ rw (eq-eqb t s same) (between-inside (s * part_limit) (s * part_limit + part_limit) (place t q) (omega (arith, same)) (omega (arith, same, low)))
  | inr ne ↦ rw (ne_eqb t s ne) (elim (cases_lt t s) [
    | inl lt ↦ between-below (s * part_limit) (s * part_limit + part_limit) (place t q) (omega (arith, lt, low))
    | inr le ↦ between-above (s * part_limit) (s * part_limit + part_limit) (place t q) (omega (arith, le, ne))
  ])
]

-- two tests that agree at each of the moves
same_any : (p q h : Move → Bool) (ms : List Move) → AllByRecursion IsLow ms → ((m : Move) → IsLow m → p m ≡ q m) → list_any h (filter p ms) ≡ list_any (λ m. q m && h m) ms
same_any p q h [] low same = refl
same_any p q h (m ∷ ms) low same = elim (cases_Bool (p m)) [
  | inl is ↦ let is2 : q m ≡ true = sym (same m low.0) ∙ is in rw (is, is2) (ap (λ b. h m || b) (same_any p q h ms low.1 same))
  | inr is ↦ let is2 : q m ≡ false = sym (same m low.0) ∙ is in rw (is, is2) (same_any p q h ms low.1 same)
]

same_filter : (p q : Move → Bool) (ms : List Move) → AllByRecursion IsLow ms → ((m : Move) → IsLow m → p m ≡ q m) → filter p ms ≡ filter q ms
same_filter p q [] low same = refl
same_filter p q (m ∷ ms) low same = elim (cases_Bool (p m)) [
  | inl is ↦ let is2 : q m ≡ true = sym (same m low.0) ∙ is in rw (is, is2) (ap (λ (l : List Move). m ∷ l) (same_filter p q ms low.1 same))
  | inr is ↦ let is2 : q m ≡ false = sym (same m low.0) ∙ is in rw (is, is2) (same_filter p q ms low.1 same)
]

pub leaving_keys : (sub part k : ℕ) (from : ℕ) (ms xs : List Move) → part < part_limit → from ≡ place sub part → AreByPlace leaving_place ms → xs ≡ filter (λ m. between from (from + 1) (leaving_place m)) ms
    → in_moves k xs ≡ list_any (λ m. leaves sub part m && move_has k m) ms
leaving_keys sub part k from ms xs low at is e = rw (e, at) (same_any (λ m. between (place sub part) (place sub part + 1) (leaving_place m)) (leaves sub part) (move_has k) ms is.low (λ m l. one_place sub part m.sub m.source low l.0))

pub arriving_keys : (sub part k : ℕ) (from : ℕ) (ms xs : List Move) → part < part_limit → from ≡ place sub part → AreByPlace arriving_place ms → xs ≡ filter (λ m. between from (from + 1) (arriving_place m)) ms
    → in_moves k xs ≡ list_any (λ m. goes_to sub part m && move_has k m) ms
arriving_keys sub part k from ms xs low at is e = rw (e, at) (same_any (λ m. between (place sub part) (place sub part + 1) (arriving_place m)) (goes_to sub part) (move_has k) ms is.low (λ m l. one_place sub part m.sub m.dest low l.1))

-- the moves of a sub-plan

pub subplan_moves : (sub from to : ℕ) (ms xs : List Move) → from ≡ sub * part_limit → to ≡ sub * part_limit + part_limit → AreByPlace arriving_place ms → xs ≡ filter (λ m. between from to (arriving_place m)) ms
    → xs ≡ filter (λ m. eqb m.sub sub) ms
subplan_moves sub from to ms xs at at2 is e = rw (e, at, at2) (same_filter (λ m. between (sub * part_limit) (sub * part_limit + part_limit) (arriving_place m)) (λ m. eqb m.sub sub) ms is.low (λ m l. one_subplan sub m.sub m.dest l.1))

-- the destinations of moves of one sub-plan do not fall
pub dests_rise : (sub : ℕ) (ms xs : List Move) → AreByPlace arriving_place ms → xs ≡ filter (λ m. eqb m.sub sub) ms → IsNonDecreasingBy (λ m. m.dest) xs
dests_rise sub ms xs is e i j d le lt =
    let rises : IsNonDecreasingBy arriving_place xs = rw e (IsNonDecreasingBy-filter arriving_place (λ m. eqb m.sub sub) ms is.rises) in
    let subs : All (λ m. eqb m.sub sub ≡ true) xs = rw e (filter_passes (λ m. eqb m.sub sub) ms) in
    let at_i = eqb-true _ _ (subs i d (omega (arith, le, lt))) in
    let at_j = eqb-true _ _ (subs j d lt) in
    omega (arith, rises i j d le lt, at_i, at_j)

-- ---- the partitions to which moves go

later_up : (x : ℕ) (ms : List Move) → ((j : ℕ) (d : Move) → j < length ms → x ≤ (get_or ms j d).dest) → IsNonDecreasingBy (λ m. m.dest) ms → Up x (dedup_from eqb x (map (λ m. m.dest) ms))
later_up x [] above rises = (omega arith, tt)
later_up x (m ∷ ms) above rises = elim (cases_eq m.dest x) [
  | inl same ↦ rw (eq-eqb m.dest x same) (later_up x ms (λ j d lt. above (suc j) d (omega arith)) (λ i j d le lt. rises (suc i) (suc j) d (omega arith) (omega arith)))
  | inr ne ↦ rw (ne_eqb m.dest x ne) (omega arith, higher (x + 1) m.dest _ (omega (arith, ne, above 0 m (omega arith))) (later_up m.dest ms (λ j d lt. rises 0 (suc j) d (omega arith) (omega arith)) (λ i j d le lt. rises (suc i) (suc j) d (omega arith) (omega arith))))
]
  where
    higher : (a b : ℕ) (xs : List ℕ) → a ≤ b → Up b xs → Up a xs
    higher a b [] le u = tt
    higher a b (y ∷ ys) le u = (omega (arith, le, u.0), u.1)

dests_up : (ms : List Move) → IsNonDecreasingBy (λ m. m.dest) ms → Up 0 (dedup eqb (map (λ m. m.dest) ms))
dests_up [] rises = tt
dests_up (m ∷ ms) rises = weaker m.dest _ (later_up m.dest ms (λ j d lt. rises 0 (suc j) d (omega arith) (omega arith)) (λ i j d le lt. rises (suc i) (suc j) d (omega arith) (omega arith)))
  where
    weaker : (b : ℕ) (xs : List ℕ) → Up b xs → Up 0 xs
    weaker b [] u = tt
    weaker b (y ∷ ys) u = (omega arith, u.1)

any_arrival : (sub part : ℕ) (ms : List Move) → is_in part (map (λ m. m.dest) (filter (λ m. eqb m.sub sub) ms)) ≡ list_any (goes_to sub part) ms
any_arrival sub part [] = refl
any_arrival sub part (m ∷ ms) = elim (cases_Bool (eqb m.sub sub)) [
  | inl is ↦ rw is (ap (λ b. eqb m.dest part || b) (any_arrival sub part ms))
  | inr is ↦ rw is (any_arrival sub part ms)
]

pub are_receivers : (sub : ℕ) (ms xs : List Move) (ds ps : List ℕ) → xs ≡ filter (λ m. eqb m.sub sub) ms → IsNonDecreasingBy (λ m. m.dest) xs → ds ≡ map (λ m. m.dest) xs → ps ≡ dedup eqb ds → AreReceivers ms sub ps
are_receivers sub ms xs ds ps e rises e2 e3 =
    let ps_are : ps ≡ dedup eqb (map (λ m. m.dest) xs) = e3 ∙ ap (dedup eqb) e2 in
    record {
      rises = rw ps_are (dests_up xs rises);
      each = λ part. rw (ps_are, e) (any_dedup (λ p. eqb p part) eqb (same_number part) (map (λ m. m.dest) (filter (λ m. eqb m.sub sub) ms)) ∙ any_arrival sub part ms);
    }

-- ---- moves between plans, by place

low_moves : (old new : List PlanRange) (ms : List Move) → AreRanges old → AreRanges new → AllByRecursion (IsMove old new) ms → All IsLow ms
low_moves old new [] full full2 each k d lt = absurd (omega arith)
low_moves old new (m ∷ ms) full full2 each zero d lt =
    let has = first_key m each.0.full in
    let source = each.0.source m.span.lo has in
    let dest = each.0.dest m.span.lo has in
    (omega (arith, source, owner_low old m.span.lo (are_parts old full)), omega (arith, dest, owner_low new m.span.lo (are_parts new full2)))
low_moves old new (m ∷ ms) full full2 each (suc k) d lt = low_moves old new ms full full2 each.1 k d (omega arith)

low_each : (ms : List Move) → All IsLow ms → AllByRecursion IsLow ms
low_each [] low = tt
low_each (m ∷ ms) low = (low 0 m (omega arith), low_each ms (λ k d lt. low (suc k) d (omega arith)))

pub by_place : (place_of : Move → ℕ) (old new : List PlanRange) (xs ys : List Move) → ArePlans old new → AreFiled place_of (moves_of old new) xs → ys ≡ xs → AreByPlace place_of ys
by_place place_of old new xs ys plans filed e = rw e (record {
  rises = filed.rises;
  low = low_each xs (All-permutation IsLow (moves_of old new) xs filed.same (low_moves old new (moves_of old new) plans.old_ranges plans.new_ranges (are_moves old new plans.old_canonical plans.new_canonical).each));
})

-- a test of moves by place, of plans under other names
pub filed_any : (place_of : Move → ℕ) (p : Move → Bool) (c : Change) (i j : List PlanRange) (xs ys : List Move) → i ≡ c.old → j ≡ c.new → AreFiled place_of (moves_of i j) xs → ys ≡ xs → list_any p ys ≡ list_any p (moves_of c.old c.new)
filed_any place_of p c i j xs ys a b filed e = rw (e, ← a, ← b) (sym (list_any-IsPermutation p _ _ filed.same))

moves_now : (c : Change) (i j : List PlanRange) → i ≡ c.old → j ≡ c.new → ArePlans i j → AreMoves c.old c.new (moves_of c.old c.new)
moves_now c i j a b plans = rw (← a, ← b) (are_moves i j plans.old_canonical plans.new_canonical)

pub filed_incoming : (c : Change) (i j : List PlanRange) (xs ys : List Move) (sub part k : ℕ) → i ≡ c.old → j ≡ c.new → ArePlans i j → AreFiled arriving_place (moves_of i j) xs → ys ≡ xs → list_any (λ m. goes_to sub part m && move_has k m) ys ≡ is_incoming c.old c.new sub part k
filed_incoming c i j xs ys sub part k a b plans filed e =
    filed_any arriving_place (λ m. goes_to sub part m && move_has k m) c i j xs ys a b filed e
    ∙ incoming_keys c.old c.new (moves_of c.old c.new) sub part k (moves_now c i j a b plans)

pub filed_outgoing : (c : Change) (i j : List PlanRange) (xs ys : List Move) (sub part k : ℕ) → i ≡ c.old → j ≡ c.new → ArePlans i j → AreFiled leaving_place (moves_of i j) xs → ys ≡ xs → list_any (λ m. leaves sub part m && move_has k m) ys ≡ is_outgoing c.old c.new sub part k
filed_outgoing c i j xs ys sub part k a b plans filed e =
    filed_any leaving_place (λ m. leaves sub part m && move_has k m) c i j xs ys a b filed e
    ∙ outgoing_keys c.old c.new (moves_of c.old c.new) sub part k (moves_now c i j a b plans)

-- a test finds among the moves of a sub-plan what it finds there among all
any_kept : (p q : Move → Bool) (ms : List Move) → list_any p (filter q ms) ≡ list_any (λ m. q m && p m) ms
any_kept p q [] = refl
any_kept p q (m ∷ ms) = elim (cases_Bool (q m)) [
  | inl is ↦ rw is (ap (λ b. p m || b) (any_kept p q ms))
  | inr is ↦ rw is (any_kept p q ms)
]

pub filed_arrivals : (c : Change) (i j : List PlanRange) (xs ys zs : List Move) (sub : ℕ) (p : Move → Bool) → i ≡ c.old → j ≡ c.new → AreFiled arriving_place (moves_of i j) xs → ys ≡ xs → zs ≡ filter (λ m. eqb m.sub sub) ys → list_any p zs ≡ list_any (λ m. eqb m.sub sub && p m) (moves_of c.old c.new)
filed_arrivals c i j xs ys zs sub p a b filed e e2 = rw e2 (any_kept p (λ m. eqb m.sub sub) ys) ∙ filed_any arriving_place (λ m. eqb m.sub sub && p m) c i j xs ys a b filed e

pub filed_receivers : (c : Change) (i j : List PlanRange) (xs ys : List Move) (sub : ℕ) (ps : List ℕ) → i ≡ c.old → j ≡ c.new → ArePlans i j → AreFiled arriving_place (moves_of i j) xs → ys ≡ xs → AreReceivers ys sub ps → ps ≡ receivers_of (moves_of c.old c.new) sub
filed_receivers c i j xs ys sub ps a b plans filed e r =
    let r1 : AreReceivers (moves_of c.old c.new) sub ps = record { rises = r.rises; each = λ part. r.each part ∙ filed_any arriving_place (goes_to sub part) c i j xs ys a b filed e } in
    let full : AreRanges c.new = rw b at plans.new_ranges in
    receivers_are c.old c.new (moves_of c.old c.new) sub ps full (moves_now c i j a b plans) r1
