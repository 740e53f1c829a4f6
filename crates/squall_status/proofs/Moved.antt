-- The statuses of the moves of a course.
use Rattle.std.proofs.Common.{◌≡◌, ℕ, ◌+◌, ◌-◌, ◌<◌, ◌≤◌, Bool, true, false, cond, List, [], ◌∷◌, ◌++◌, map, length, refl, sym, ap, subst, ◌∙◌, arith, inl, inr}
use Rattle.std.specs.Prelude.{◌&&◌, ◌||◌, ◌↔◌, ◌≢◌, ◌==◌, not, filter, nat_lt, min, Option, None, Some}
use Rattle.std.specs.List.{AllByRecursion, sum_by, list_any, range_with_len}
use Rattle.std.proofs.Math.Bool.{and-true, and-false}
use Rattle.std.proofs.lemmas.Bool.{cases_lt, false≢true, and_parts}
use Rattle.std.proofs.lemmas.Bool.Decides.{nat_tests}
use Rattle.std.proofs.lemmas.List.Sums.{sum_by-cons, length-filter, count_by-le-length}
use Rattle.std.proofs.lemmas.List.FromFn.{length-range_with_len, map-range_with_len_more}
use Rattle.squall_key.specs.Keys.{top, part_limit}
use Rattle.squall_span.specs.Spans.{span_has, how_many}
use Rattle.squall_span.specs.SpanLaws.{outside_above, outside_below}
use Rattle.squall_plan.specs.declared.range.PlanRange.{PlanRange}
use Rattle.squall_plan.specs.Ranges.{owner_of}
use Rattle.squall_course.specs.declared.moving.Move.{Move}
use Rattle.squall_course.specs.Change.{Change, ArePlans}
use Rattle.squall_course.specs.Subplans.{moves, sub_at, sub_of, subplan_count}
use Rattle.squall_course.specs.Moves.{move_has, in_moves, goes_to, receivers_of, IsMove, Rise, AreMoves}
use Rattle.squall_course.proofs.Moved.{are_moves}
use Rattle.squall_report.specs.Cells.{place_at}
use Rattle.squall_report.specs.Facts.{Fact, OpenedSub}
use Rattle.squall_board.specs.Route.{has_come, route}
use Rattle.squall_board.specs.MovesRoute.{cell_to, has_come_to}
use Rattle.squall_status.specs.declared.progress.Progress.{Progress}
use Rattle.squall_status.specs.declared.progress.Progress.TheVariants.{Complete}
use Rattle.squall_status.specs.declared.progress.MoveStatus.{MoveStatus}
use Rattle.squall_status.specs.declared.subplan.SubplanStatus.{SubplanStatus}
use Rattle.squall_status.specs.Coming.{IsProgress}
use Rattle.squall_status.specs.Steps.{open_of}
use Rattle.squall_status.specs.Summary.{StatusValue, move_keys, move_loaded, IsMoveStatus, AreMoveStatuses, is_loaded, IsLastBelow, IsStatusOf}
use Rattle.squall_status.proofs.Counts.{same_many, many_upto, many_within, many_none, many_either, many_of_span}
use Rattle.squall_status.proofs.Progressed.{progress_counts, same_progress, progress_is_one}

-- ---- lists

pub all_more : {X : Type 0} (P : X → Type 0) (xs : List X) (x : X) → AllByRecursion P xs → P x → AllByRecursion P (xs ++ x ∷ [])
all_more P [] x all p = (p, tt)
all_more P (y ∷ ys) x all p = (all.0, all_more P ys x all.1 p)

pub moved_more : (ss : List MoveStatus) (s : MoveStatus) → map (λ t. t.moving) (ss ++ s ∷ []) ≡ map (λ t. t.moving) ss ++ s.moving ∷ []
moved_more [] s = refl
moved_more (t ∷ ss) s = ap (λ ms. t.moving ∷ ms) (moved_more ss s)

-- what holds of each move holds of the move of each status
pub all_moving : (P : Move → Type 0) (ss : List MoveStatus) → AllByRecursion P (map (λ s. s.moving) ss) → AllByRecursion (λ s. P s.moving) ss
all_moving P [] all = tt
all_moving P (s ∷ ss) all = (all.0, all_moving P ss all.1)

-- ---- the cell of a move

come_in_cell : (c : Change) (says : Fact → Bool) (m : Move) (k : ℕ) → IsMove c.old c.new m → move_has k m ≡ true → has_come_to says (cell_to c.number m) k ≡ has_come c says k
come_in_cell c says m k is has =
    let source : owner_of c.old k ≡ m.source = is.source k has in
    let dest : owner_of c.new k ≡ m.dest = is.dest k has in
    let sub : m.sub ≡ sub_of c.old c.new k = is.sub ∙ ap (λ s. sub_at c.old c.new s m.dest) (sym source) ∙ ap (sub_at c.old c.new (owner_of c.old k)) (sym dest) in
    λ i. has_come_to says (place_at c.number (sub i) (sym dest i)) k

-- the progress by the move's cell is that in the course
pub progress_by_cell : (c : Change) (says : Fact → Bool) (m : Move) (p : Progress) → IsMove c.old c.new m → IsProgress m.span (has_come_to says (cell_to c.number m)) p → IsProgress m.span (has_come c says) p
progress_by_cell c says m p is by = same_progress m.span (has_come_to says (cell_to c.number m)) (has_come c says) p (λ k has. come_in_cell c says m k is has) by

-- and the other way round
pub progress_at_cell : (c : Change) (says : Fact → Bool) (m : Move) (p : Progress) → IsMove c.old c.new m → IsProgress m.span (has_come c says) p → IsProgress m.span (has_come_to says (cell_to c.number m)) p
progress_at_cell c says m p is by = same_progress m.span (has_come c says) (has_come_to says (cell_to c.number m)) p (λ k has. sym (come_in_cell c says m k is has)) by

-- ---- sums over moves

-- a move that has keys, all below the top
abbrev pub IsFull : Move → Type 0
IsFull m = (m.span.lo < m.span.hi) × (m.span.hi ≤ top)

pub full_moves : (old new : List PlanRange) (ms : List Move) → AllByRecursion (IsMove old new) ms → AllByRecursion IsFull ms
full_moves old new [] all = tt
full_moves old new (m ∷ ms) all = ((all.0.full, all.0.high), full_moves old new ms all.1)

-- no key before the first of the moves
none_before : (from k : ℕ) (ms : List Move) → Rise from ms → AllByRecursion IsFull ms → k < from → in_moves k ms ≡ false
none_before from k [] rise full lt = refl
none_before from k (m ∷ ms) rise full lt =
    ap (λ b. b || in_moves k ms) (outside_below m.span k (omega (arith, rise.0))) ∙ none_before m.span.hi k ms rise.1 full.1 (omega (arith, rise.0, full.0.0))

-- the moves of statuses
abbrev moved : List MoveStatus → List Move
moved ss = map (λ s. s.moving) ss

module _ (test : ℕ → Bool) (count : MoveStatus → ℕ) where
  -- how many keys of a status pass the test
  abbrev Counts : MoveStatus → Type 0
  Counts s = count s ≡ how_many (λ k. move_has k s.moving && test k) top

  split_moves : (s : MoveStatus) (ss : List MoveStatus) (k : ℕ) → (in_moves k (moved (s ∷ ss)) && test k) ≡ ((move_has k s.moving && test k) || (in_moves k (moved ss) && test k))
  split_moves s ss k = each (move_has k s.moving) (in_moves k (moved ss)) (test k)
    where
      each : (a b c : Bool) → ((a || b) && c) ≡ ((a && c) || (b && c))
      each a b true = and-true (a || b) ∙ (λ i. sym (and-true a) i || sym (and-true b) i)
      each a b false = and-false (a || b) ∙ (λ i. sym (and-false a) i || sym (and-false b) i)

  apart : (s : MoveStatus) (ss : List MoveStatus) (k : ℕ) → Rise s.moving.span.hi (moved ss) → AllByRecursion IsFull (moved ss) → ((move_has k s.moving && test k) && (in_moves k (moved ss) && test k)) ≡ false
  apart s ss k rise full = elim (cases_lt k s.moving.span.hi) [
    | inl low ↦ ap (λ b. (move_has k s.moving && test k) && (b && test k)) (none_before s.moving.span.hi k (moved ss) rise full low) ∙ and-false (move_has k s.moving && test k)
    | inr high ↦ ap (λ b. (b && test k) && (in_moves k (moved ss) && test k)) (outside_above s.moving.span k high)
  ]

  sum_is_many : (from : ℕ) (ss : List MoveStatus) → Rise from (moved ss) → AllByRecursion IsFull (moved ss) → AllByRecursion Counts ss → sum_by count ss ≡ how_many (λ k. in_moves k (moved ss) && test k) top
  sum_is_many from [] rise full counts = sym (many_none (λ k. in_moves k [] && test k) top (λ k lt. refl))
  sum_is_many from (s ∷ ss) rise full counts =
      let rest = sum_is_many s.moving.span.hi ss rise.1 full.1 counts.1 in
      let whole = same_many (λ k. in_moves k (moved (s ∷ ss)) && test k) (λ k. (move_has k s.moving && test k) || (in_moves k (moved ss) && test k)) top (λ k lt. split_moves s ss k) in
      let sum = many_either (λ k. move_has k s.moving && test k) (λ k. in_moves k (moved ss) && test k) top (λ k. apart s ss k rise.1 full.1) in
      sum_by-cons count s ss ∙ ap (λ n. n + sum_by count ss) counts.0 ∙ ap (λ n. how_many (λ k. move_has k s.moving && test k) top + n) rest ∙ sym (whole ∙ sum)

keys_count : (s : MoveStatus) → IsFull s.moving → move_keys s ≡ how_many (λ k. move_has k s.moving && true) top
keys_count s full = sym (same_many (λ k. move_has k s.moving && true) (span_has s.moving.span) top (λ k lt. and-true (move_has k s.moving)) ∙ many_of_span s.moving.span top full.0 full.1)

keys_counts : (ss : List MoveStatus) → AllByRecursion IsFull (moved ss) → AllByRecursion (λ s. move_keys s ≡ how_many (λ k. move_has k s.moving && true) top) ss
keys_counts [] full = tt
keys_counts (s ∷ ss) full = (keys_count s full.0, keys_counts ss full.1)

loaded_counts : (c : Change) (says : Fact → Bool) (ss : List MoveStatus) → AllByRecursion IsFull (moved ss) → AllByRecursion (IsMoveStatus c says) ss → AllByRecursion (λ s. move_loaded s ≡ how_many (λ k. move_has k s.moving && has_come c says k) top) ss
loaded_counts c says [] full each = tt
loaded_counts c says (s ∷ ss) full each = (progress_counts s.moving.span (has_come c says) s.progress full.0.0 full.0.1 each.0, loaded_counts c says ss full.1 each.1)

-- ---- the statuses of a course's moves

module _ (c : Change) (says : Fact → Bool) (ss : List MoveStatus) (plans : ArePlans c.old c.new) (are : AreMoveStatuses c says ss) where
  pub meaning : AreMoves c.old c.new (moved ss)
  meaning = subst (AreMoves c.old c.new) (sym are.moves) (are_moves c.old c.new plans.old_canonical plans.new_canonical)

  all_full : AllByRecursion IsFull (moved ss)
  all_full = full_moves c.old c.new (moved ss) meaning.each

  pub keys_sum : sum_by move_keys ss ≡ how_many (moves c.old c.new) top
  keys_sum =
      sum_is_many (λ k. true) move_keys 0 ss meaning.rise all_full (keys_counts ss all_full)
      ∙ same_many (λ k. in_moves k (moved ss) && true) (moves c.old c.new) top (λ k lt. and-true (in_moves k (moved ss)) ∙ meaning.all k)

  pub loaded_sum : sum_by move_loaded ss ≡ how_many (is_loaded c says) top
  loaded_sum =
      sum_is_many (has_come c says) move_loaded 0 ss meaning.rise all_full (loaded_counts c says ss all_full are.each)
      ∙ same_many (λ k. in_moves k (moved ss) && has_come c says k) (is_loaded c says) top (λ k lt. ap (λ b. b && has_come c says k) (meaning.all k))

  pub keys_few : sum_by move_keys ss ≤ top
  keys_few = omega (arith, keys_sum, many_upto (moves c.old c.new) top)

  pub loaded_few : sum_by move_loaded ss ≤ sum_by move_keys ss
  loaded_few = omega (arith, keys_sum, loaded_sum, many_within (is_loaded c says) (moves c.old c.new) top (λ k is. (and_parts (moves c.old c.new k) (has_come c says k) is).0))

-- ---- one list of statuses

abbrev first_or : Move → List Move → Move
first_or d [] = d
first_or d (m ∷ ms) = m

abbrev others : List Move → List Move
others [] = []
others (m ∷ ms) = ms

nothing_else : {P : Type 0} (m : Move) (ms : List Move) → [] ≡ m ∷ ms → P
nothing_else m ms e = absurd (let bad : ⊥ = cc in bad)

same_statuses : (c : Change) (told : Fact → Bool) (ss ts : List MoveStatus) → moved ss ≡ moved ts → AllByRecursion IsFull (moved ts) → AllByRecursion (IsMoveStatus c told) ss → AllByRecursion (IsMoveStatus c told) ts → ss ≡ ts
same_statuses c told [] [] e full x y = refl
same_statuses c told [] (t ∷ ts) e full x y = nothing_else t.moving (moved ts) e
same_statuses c told (s ∷ ss) [] e full x y = nothing_else s.moving (moved ss) (sym e)
same_statuses c told (s ∷ ss) (t ∷ ts) e full x y =
    let first : s.moving ≡ t.moving = ap (first_or s.moving) e in
    let progress = progress_is_one t.moving.span (has_come c told) s.progress t.progress full.0.0 (subst (λ (m : Move). IsProgress m.span (has_come c told) s.progress) first x.0) y.0 in
    let rest = same_statuses c told ss ts (ap others e) full.1 x.1 y.1 in
    λ i. status_with (first i) (progress i) ∷ rest i
  where
    status_with : Move → Progress → MoveStatus
    status_with m p = record { moving = m; progress = p }

pub one_list : (c : Change) (says : Fact → Bool) (ss ts : List MoveStatus) → ArePlans c.old c.new → AreMoveStatuses c says ss → AreMoveStatuses c says ts → ss ≡ ts
one_list c says ss ts plans x y = same_statuses c says ss ts (x.moves ∙ sym y.moves) (all_full c says ts plans y) x.each y.each

-- ---- complete moves

goes : (c : Change) (says : Fact → Bool) (m : Move) (k : ℕ) → IsMove c.old c.new m → move_has k m ≡ true → has_come c says k ≡ true → route c says k ≡ m.dest
goes c says m k is has come = ap (λ b. cond (not (moves c.old c.new k) || b) (owner_of c.new k) (owner_of c.old k)) come ∙ whole (not (moves c.old c.new k)) ∙ is.dest k has
  where
    whole : (b : Bool) → cond (b || true) (owner_of c.new k) (owner_of c.old k) ≡ owner_of c.new k
    whole true = refl
    whole false = refl

-- a key of the move that has not come goes to its source
stays : (c : Change) (says : Fact → Bool) (m : Move) (k : ℕ) → IsMove c.old c.new m → move_has k m ≡ true → route c says k ≡ m.dest → has_come c says k ≡ true
stays c says m k is has goes = by_case (has_come c says k) refl
  where
    differ : (a b : ℕ) → a ≢ b → not (a == b) ≡ true
    differ a b ne = grind (arith, nat_tests)

    moves_here : moves c.old c.new k ≡ true
    moves_here = (λ i. not (is.source k has i == is.dest k has i)) ∙ differ m.source m.dest is.other

    by_case : (b : Bool) → has_come c says k ≡ b → b ≡ true
    by_case true e = refl
    by_case false e =
        let old : route c says k ≡ owner_of c.old k = λ i. cond (not (moves_here i) || e i) (owner_of c.new k) (owner_of c.old k) in
        absurd (is.other (sym (sym goes ∙ old ∙ is.source k has)))

complete_is : (c : Change) (says : Fact → Bool) (s : MoveStatus) → IsMove c.old c.new s.moving → IsMoveStatus c says s → (s.progress ≡ Complete) ↔ ((k : ℕ) → span_has s.moving.span k ≡ true → route c says k ≡ s.moving.dest)
complete_is c says s is by = (
  λ e k has. goes c says s.moving k is has (subst (IsProgress s.moving.span (has_come c says)) e by k has),
  λ all. progress_is_one s.moving.span (has_come c says) s.progress Complete is.full by (λ k has. stays c says s.moving k is has (all k has)),
)

complete_each : (c : Change) (says : Fact → Bool) (ss : List MoveStatus) → AllByRecursion (IsMove c.old c.new) (moved ss) → AllByRecursion (IsMoveStatus c says) ss → AllByRecursion (λ s. (s.progress ≡ Complete) ↔ ((k : ℕ) → span_has s.moving.span k ≡ true → route c says k ≡ s.moving.dest)) ss
complete_each c says [] is by = tt
complete_each c says (s ∷ ss) is by = (complete_is c says s is.0 by.0, complete_each c says ss is.1 by.1)

pub complete_all : (c : Change) (says : Fact → Bool) (ss : List MoveStatus) → ArePlans c.old c.new → AreMoveStatuses c says ss → AllByRecursion (λ s. (s.progress ≡ Complete) ↔ ((k : ℕ) → span_has s.moving.span k ≡ true → route c says k ≡ s.moving.dest)) ss
complete_all c says ss plans are = complete_each c says ss (meaning c says ss plans are).each are.each

-- ---- one status

one_last : (bound : ℕ) (test : ℕ → Bool) (o p : Option ℕ) → IsLastBelow bound test o → IsLastBelow bound test p → o ≡ p
one_last bound test None None x y = refl
one_last bound test None (Some n) x y = absurd (false≢true (sym (x n y.0) ∙ y.1))
one_last bound test (Some n) None x y = absurd (false≢true (sym (y n x.0) ∙ x.1))
one_last bound test (Some n) (Some m) x y = let same : n ≡ m = omega (arith, y.2 n x.0 x.1, x.2 m y.0 y.1) in ap Some same

pub one_value : (c : Change) (told : Fact → Bool) (s t : StatusValue) → ArePlans c.old c.new → IsStatusOf c told s → IsStatusOf c told t → s ≡ t
one_value c told s t plans x y =
    let number : s.number ≡ t.number = x.number ∙ sym y.number in
    let each : s.moves ≡ t.moves = one_list c told s.moves t.moves plans x.statuses y.statuses in
    let subplans : s.subplans ≡ t.subplans = x.subplans ∙ sym y.subplans in
    let open_sub : s.open_sub ≡ t.open_sub = one_last (subplan_count c.old c.new) (λ n. told (OpenedSub c.number n)) s.open_sub t.open_sub x.open_sub y.open_sub in
    let keys : s.keys ≡ t.keys = x.keys ∙ sym y.keys in
    let loaded : s.loaded ≡ t.loaded = x.loaded ∙ sym y.loaded in
    λ i. value_with (number i) (each i) (subplans i) (open_sub i) (keys i) (loaded i)
  where
    value_with : ℕ → List MoveStatus → List SubplanStatus → Option ℕ → ℕ → ℕ → StatusValue
    value_with number each subplans open_sub keys loaded = record { number = number; moves = each; subplans = subplans; open_sub = open_sub; keys = keys; loaded = loaded }

-- ---- sub-plans

few_of : (test : ℕ → Bool) (n : ℕ) → length (filter test (range_with_len 0 n)) ≤ n
few_of test n = omega (arith, length-filter test (range_with_len 0 n), count_by-le-length test (range_with_len 0 n), length-range_with_len 0 n)

pub few_receivers : (ms : List Move) (sub : ℕ) → length (receivers_of ms sub) ≤ part_limit
unfolding receivers_of
few_receivers ms sub = few_of (λ part. list_any (goes_to sub part) ms) part_limit

-- one more of the sub-plans
pub statuses_more : (status : ℕ → SubplanStatus) (ss : List SubplanStatus) (s : SubplanStatus) (n : ℕ) → ss ≡ map status (range_with_len 0 n) → s ≡ status n → ss ++ s ∷ [] ≡ map status (range_with_len 0 (n + 1))
statuses_more status ss s n all one = (λ i. all i ++ one i ∷ []) ∙ sym (map-range_with_len_more status 0 n n (omega arith))

below : (s n : ℕ) → s < n → nat_lt s n ≡ true
below s n lt = grind (arith, nat_tests)

not_below : (s n : ℕ) → n ≤ s → nat_lt s n ≡ false
not_below s n le = grind (arith, nat_tests)

is_below : (s n : ℕ) → nat_lt s n ≡ true → s < n
is_below s n e = grind (arith, nat_tests)

-- if the sub-plans below a count are opened, that is the last one
pub open_is_last : (opened bound : ℕ) (test : ℕ → Bool) → ((n : ℕ) → test n ≡ nat_lt n opened) → IsLastBelow bound test (open_of opened bound)
open_is_last opened bound test same =
    elim (min opened bound == 0) as (λ b. (min opened bound == 0) ≡ b → IsLastBelow bound test (cond b None (Some (min opened bound - 1)))) [
      | true ↦ λ e. let none : min opened bound ≡ 0 = grind (arith, nat_tests) in λ n lt. same n ∙ not_below n opened (omega (arith, none))
      | false ↦ λ e.
          let some : 0 < min opened bound = grind (arith, nat_tests) in
          let last : min opened bound - 1 < opened = omega (arith, some) in
          (omega (arith, some), same (min opened bound - 1) ∙ below (min opened bound - 1) opened last, λ n lt is. upto n lt (is_below n opened (sym (same n) ∙ is)))
    ] refl
  where
    upto : (n : ℕ) → n < bound → n < opened → n ≤ min opened bound - 1
    upto n lt less = omega arith
