-- The partitions to which moves go.
use Rattle.std.proofs.Common.{◌≡◌, ℕ, ◌+◌, ◌<◌, Bool, true, eqb, List, [], ◌∷◌, map, refl, sym, ap, ◌∙◌, arith, inl, inr, nat_cmp, Less}
use Rattle.std.specs.Prelude.{filter, ◌||◌, ◌&&◌, ◌↔◌}
use Rattle.std.specs.List.{list_any, AllByRecursion, Contains}
use Rattle.std.specs.List.Sorted.{IsStrictlySortedBy}
use Rattle.std.proofs.lemmas.Bool.{cases_Bool, and_parts, or_cases, or_left, or_right, eqb-true, false≢true}
use Rattle.squall_plan.specs.PlanLaws.{are_parts, owner_low}
use Rattle.squall_course.proofs.Gathered.{incoming_keys}
use Rattle.squall_course.specs.Subplans.{moves}
use Rattle.squall_key.specs.Keys.{top, part_limit}
use Rattle.squall_plan.specs.declared.range.PlanRange.{PlanRange}
use Rattle.squall_plan.specs.Ranges.{AreRanges}
use Rattle.squall_course.specs.declared.moving.Move.{Move}
use Rattle.squall_course.specs.Change.{Change, ArePlans}
use Rattle.squall_course.specs.Moves.{in_moves, is_incoming, goes_to, receivers_of, moves_of, move_has, IsMove, AreMoves}
use Rattle.squall_course.specs.Steps.{Up, AreReceivers}
use Rattle.squall_course.proofs.Rising.{same_rising, filter_up, in_filter, contains_in, in_contains}
use Rattle.squall_course.proofs.Rows.{less_number}
use Rattle.squall_course.proofs.Moved.{are_moves, first_key}

up_from : (x : ℕ) (ys : List ℕ) → AllByRecursion (λ y. nat_cmp x y ≡ Less) ys → Up 0 ys → Up (x + 1) ys
up_from x [] a u = tt
up_from x (y ∷ ys) a u = (let lt = less_number x y a.0 in omega (arith, lt), u.1)

pub sorted_up : (xs : List ℕ) → IsStrictlySortedBy nat_cmp xs → Up 0 xs
unfolding IsStrictlySortedBy
sorted_up [] s = tt
sorted_up (x ∷ xs) s = (omega arith, up_from x xs s.0 (sorted_up xs s.1))

pub same_number : (part a b : ℕ) → eqb a b ≡ true → eqb a part ≡ eqb b part
same_number part a b e = rw (eqb-true a b e) refl

pub any_dest : (sub part : ℕ) (ms : List Move) (ps : List ℕ) → ps ≡ map (λ m. m.dest) (filter (λ m. eqb m.sub sub) ms) → list_any (λ p. eqb p part) ps ≡ list_any (goes_to sub part) ms
any_dest sub part ms ps e = rw e (of_moves ms)
  where
    of_moves : (ms : List Move) → list_any (λ p. eqb p part) (map (λ m. m.dest) (filter (λ m. eqb m.sub sub) ms)) ≡ list_any (goes_to sub part) ms
    of_moves [] = refl
    of_moves (m ∷ ms) = elim (cases_Bool (eqb m.sub sub)) [
      | inl is ↦ rw is (ap (λ b. eqb m.dest part || b) (of_moves ms))
      | inr is ↦ rw is (of_moves ms)
    ]

receiver_low : (old new : List PlanRange) (ms : List Move) (sub part : ℕ) → AreRanges new → AllByRecursion (IsMove old new) ms → list_any (goes_to sub part) ms ≡ true → part < part_limit
receiver_low old new [] sub part full each is = absurd (false≢true is)
receiver_low old new (m ∷ ms) sub part full each is = elim (or_cases (goes_to sub part m) (list_any (goes_to sub part) ms) is) [
  | inl here ↦
      let dest = eqb-true m.dest part (and_parts (eqb m.sub sub) (eqb m.dest part) here).1 in
      let owner = each.0.dest m.span.lo (first_key m each.0.full) in
      let low = owner_low new m.span.lo (are_parts new full) in
      omega (arith, dest, owner, low)
  | inr later ↦ receiver_low old new ms sub part full each.1 later
]

pub receivers_are : (old new : List PlanRange) (ms : List Move) (sub : ℕ) (ps : List ℕ) → AreRanges new → AreMoves old new ms → AreReceivers ms sub ps → ps ≡ receivers_of ms sub
unfolding receivers_of
receivers_are old new ms sub ps full are r =
    same_rising 0 ps _ r.rises (filter_up (λ part. list_any (goes_to sub part) ms) 0 part_limit)
    (λ q. r.each q ∙ sym (in_filter (λ part. list_any (goes_to sub part) ms) part_limit q (receiver_low old new ms sub q full are.each)))

pub course_receivers : (c : Change) (i j : List PlanRange) (ms ns : List Move) (sub : ℕ) (ps : List ℕ) → i ≡ c.old → j ≡ c.new → ArePlans i j → ns ≡ moves_of i j → ms ≡ ns → AreReceivers ms sub ps → ps ≡ receivers_of (moves_of c.old c.new) sub
course_receivers c i j ms ns sub ps a b plans listed same r =
    let listed1 : ms ≡ moves_of i j = same ∙ listed in
    let r1 : AreReceivers (moves_of i j) sub ps = rw listed1 at r in
    rw (← a, ← b) (receivers_are i j (moves_of i j) sub ps plans.new_ranges (are_moves i j plans.old_canonical plans.new_canonical) r1)

-- a partition receives exactly if a key moves to it

some_key : (old new : List PlanRange) (all ms : List Move) (sub part : ℕ) → AllByRecursion (IsMove old new) ms → ((k : ℕ) → in_moves k ms ≡ true → moves old new k ≡ true) → list_any (goes_to sub part) ms ≡ true → (k : ℕ) × (k < top) × (is_incoming old new sub part k ≡ true)
some_key old new all [] sub part each moved is = absurd (false≢true is)
some_key old new all (m ∷ ms) sub part each moved is = elim (or_cases (goes_to sub part m) (list_any (goes_to sub part) ms) is) [
  | inl here ↦
      let has = first_key m each.0.full in
      let parts = and_parts (eqb m.sub sub) (eqb m.dest part) here in
      let moving = moved m.span.lo (rw has refl) in
      (m.span.lo, omega (arith, each.0.full, each.0.high), rw (moving, each.0.source m.span.lo has, each.0.dest m.span.lo has, sym each.0.sub, parts.0, parts.1) refl)
  | inr later ↦ some_key old new all ms sub part each.1 (λ k in_them. moved k (or_right (move_has k m) (in_moves k ms) in_them)) later
]

some_move : (g h : Move → Bool) (ms : List Move) → list_any (λ m. g m && h m) ms ≡ true → list_any g ms ≡ true
some_move g h [] is = absurd (false≢true is)
some_move g h (m ∷ ms) is = elim (or_cases (g m && h m) (list_any (λ n. g n && h n) ms) is) [
  | inl here ↦ or_left (g m) (list_any g ms) (and_parts (g m) (h m) here).0
  | inr later ↦ or_right (g m) (list_any g ms) (some_move g h ms later)
]

pub receiver_keys : (old new : List PlanRange) (sub part : ℕ) → ArePlans old new → Contains (receivers_of (moves_of old new) sub) part ↔ ((k : ℕ) × (k < top) × (is_incoming old new sub part k ≡ true))
unfolding receivers_of
receiver_keys old new sub part plans =
    let ms = moves_of old new in
    let are = are_moves old new plans.old_canonical plans.new_canonical in
    let members = in_filter (λ p. list_any (goes_to sub p) ms) part_limit part (receiver_low old new ms sub part plans.new_ranges are.each) in (
      (λ h. some_key old new ms ms sub part are.each (λ k is. sym (are.all k) ∙ is) (sym members ∙ contains_in part _ h)),
      (λ key. in_contains part _ (members ∙ some_move (goes_to sub part) (move_has key.0) ms (incoming_keys old new ms sub part key.0 are ∙ key.2))),
    )
