-- How the bodies of runs of items grow, and how the runs are cut.
use Rattle.std.specs.Prelude.{◌≡◌, ◌≢◌, ℕ, suc, ◌+◌, ◌<◌, ◌≤◌, nat_lt, Bool, true, false, List, [], ◌∷◌, ◌++◌, map, length, if◌then◌else◌, refl}
use Rattle.std.proofs.Common.{sym, ap, subst, ◌∙◌, arith}
use Rattle.std.proofs.lemmas.Bool.Decides.{nat_tests}
use Rattle.std.proofs.lemmas.List.{append-nil}
use Rattle.std.specs.List.{flat_map, AllByRecursion}
use Rattle.squall_report.specs.Cells.{CellPlace, is_same_cell}
use Rattle.squall_board.specs.Boards.{BoardValue, empty_board, board_join}
use Rattle.squall_board.specs.Listed.{CellEntry, ComesBefore}
use Rattle.squall_wire.specs.Messages.{BoardLists, lists_of}
use Rattle.squall_wire.specs.Spelling.{spell_issue, spell_cell, spell_span}
use Rattle.squall_delta.specs.Items.{Item, opening, issue, done, loaded, item_board, with_items, items_board}
use Rattle.squall_delta.specs.Pieces.{body_length, FitsBody, IsFull, AreLongestRuns, items_of_groups}
use Rattle.squall_delta.specs.Cutting.{cut_with, uncut, turned, put_item, fed_all, empty_bytes, pieces_with, group_bytes, cut_after, cut_items, FitsAlone, done_entry, span_entry, ItemFollows, ItemsRise, IsItem, AreNext, has_some, last_after, last_place, is_last, cell_cost, issue_cost, item_cost}
use Rattle.squall_delta.specs.PieceCellLaws.{place_other}
use Rattle.squall_delta.specs.PieceListLaws.{length_put}
use Rattle.squall_delta.specs.PieceItemLaws.{append_one, next_put, next_first, all_first, rise_first}

-- ---- each item adds bytes

new_after : (c : CellEntry) (cs : List CellEntry) (p : CellPlace) → AllByRecursion (λ q. ComesBefore q (done_entry p)) (c ∷ cs) → is_same_cell (last_after c cs) p ≡ false
new_after c [] p h = place_other c.cell p h.0
new_after c (e ∷ es) p h = new_after e es p h.1

-- the place of a completion that follows the cells is not the last one
pub done_is_new : (cs : List CellEntry) (p : CellPlace) → AllByRecursion (λ q. ComesBefore q (done_entry p)) cs → is_last (last_place cs) p ≡ false
done_is_new [] p h = refl
done_is_new (c ∷ cs) p h = new_after c cs p h

some_more : (n m : ℕ) → n ≡ suc m → 0 < n
some_more n m e = omega (arith, e)

span_some : (b : Bool) (n m : ℕ) → 0 < n → 0 < m → 0 < (if b then n else m)
span_some true n m x y = x
span_some false n m x y = y

cost_of_span : (b : Bool) (d : CellEntry) → 0 < length (flat_map spell_span d.spans) → 0 < length (spell_cell d) → 0 < cell_cost b d
cost_of_span true d x y = x
cost_of_span false d x y = y

cost_of_issue : (b : Bool) (n : ℕ) → 0 < n → 0 < issue_cost b n
cost_of_issue true n h = h
cost_of_issue false n h = omega (arith, h)

cost_some : (d : BoardLists) (i : Item) → ItemFollows d i → 0 < item_cost d i
cost_some d (opening o) h = omega arith
cost_some d (issue e) h = cost_of_issue (has_some d.issues) (length (spell_issue e)) (some_more (length (spell_issue e)) _ refl)
cost_some d (done c) h = subst (λ b. 0 < cell_cost b (done_entry c)) (sym (done_is_new d.cells c h)) (some_more (length (spell_cell (done_entry c))) _ refl)
cost_some d (loaded c s) h = cost_of_span (is_last (last_place d.cells) c) (span_entry c s) (some_more (length (flat_map spell_span (s ∷ []))) _ refl) (some_more (length (spell_cell (span_entry c s))) _ refl)

put_grows : (a b n : ℕ) → b ≡ a + n → 0 < n → a < b
put_grows a b n e some = omega (arith, e, some)

-- a piece with an item more has a longer body
pub longer : (b : BoardValue) (i : Item) (is : List Item) → AreNext b (i ∷ is) → body_length b < body_length (board_join b (item_board i))
longer b i is next = put_grows (body_length b) (body_length (board_join b (item_board i))) (item_cost (lists_of b) i) (length_put b i next.board next.within.0 next.after.0) (cost_some (lists_of b) i next.after.0)

le_itself : (n : ℕ) → n ≤ n
le_itself n = omega arith

le_after : (a b c : ℕ) → a < b → b ≤ c → a ≤ c
le_after a b c x y = omega (arith, x, y)

pub grows : (b : BoardValue) (is : List Item) → AreNext b is → body_length b ≤ body_length (with_items b is)
grows b [] next = le_itself (body_length b)
grows b (i ∷ is) next = le_after (body_length b) (body_length (board_join b (item_board i))) (body_length (with_items (board_join b (item_board i)) is)) (longer b i is next) (grows (board_join b (item_board i)) is (next_put b i is next))

pub with_append : (b : BoardValue) (xs ys : List Item) → with_items b (xs ++ ys) ≡ with_items (with_items b xs) ys
with_append b [] ys = refl
with_append b (x ∷ xs) ys = with_append (board_join b (item_board x)) xs ys

pub next_after : (b : BoardValue) (xs ys : List Item) → AreNext b (xs ++ ys) → AreNext (with_items b xs) ys
next_after b [] ys next = next
next_after b (x ∷ xs) ys next = next_after (board_join b (item_board x)) xs ys (next_put b x (xs ++ ys) next)

-- the body of a run is no longer than that of a longer run
prefix_bytes : (xs ys : List Item) → AreNext empty_board (xs ++ ys) → group_bytes xs ≤ group_bytes (xs ++ ys)
prefix_bytes xs ys next = subst (λ b. group_bytes xs ≤ body_length b) (sym (with_append empty_board xs ys)) (grows (items_board xs) ys (next_after empty_board xs ys next))

-- ---- lists

one_more : {X : Type 0} (xs : List X) (x : X) → (xs ++ x ∷ []) ≢ []
one_more [] x e = cc
one_more (y ∷ ys) x e = cc

one_some : {X : Type 0} (x : X) (xs : List X) → (x ∷ xs) ≢ []
one_some x xs e = cc

-- ---- tests

over : (most n : ℕ) → nat_lt most n ≡ true → most < n
over most n e = grind (arith, nat_tests)

within_limit : (most n : ℕ) → nat_lt most n ≡ false → n ≤ most
within_limit most n e = grind (arith, nat_tests)

is_over : (most n : ℕ) → most < n → nat_lt most n ≡ true
is_over most n lt = grind (arith, nat_tests)

pub is_within : (most n : ℕ) → n ≤ most → nat_lt most n ≡ false
is_within most n le = grind (arith, nat_tests)

-- ---- the groups that are cut

-- together they are the items
pub cut_joined : (most : ℕ) (g is : List Item) → items_of_groups (cut_after most g is) ≡ g ++ is
cut_joined most g [] = refl
cut_joined most g (i ∷ is) = elim (nat_lt most (group_bytes (g ++ i ∷ []))) as (λ b. items_of_groups (if b then g ∷ cut_after most (i ∷ []) is else cut_after most (g ++ i ∷ []) is) ≡ g ++ i ∷ is) [
  | true ↦ ap (λ l. g ++ l) (cut_joined most (i ∷ []) is)
  | false ↦ cut_joined most (g ++ i ∷ []) is ∙ append_one g i is
]

cut_full : (most : ℕ) (g : List Item) (i : Item) (js is : List Item) → most < group_bytes (g ++ i ∷ []) → IsFull most g (cut_after most (i ∷ js) is)
cut_full most g i js [] lt = lt
cut_full most g i js (k ∷ is) lt = elim (nat_lt most (group_bytes (i ∷ (js ++ k ∷ [])))) as (λ b. IsFull most g (if b then (i ∷ js) ∷ cut_after most (k ∷ []) is else cut_after most (i ∷ (js ++ k ∷ [])) is)) [
  | true ↦ lt
  | false ↦ cut_full most g i (js ++ k ∷ []) is lt
]

-- each is as long as a body can hold
pub cut_runs : (most : ℕ) (g is : List Item) → g ≢ [] → FitsBody most (items_board g) → AllByRecursion (FitsAlone most) is → AreLongestRuns most (cut_after most g is)
cut_runs most g [] some fits alone = (some, fits, tt, tt)
cut_runs most g (i ∷ is) some fits alone = elim (nat_lt most (group_bytes (g ++ i ∷ []))) as (λ b. nat_lt most (group_bytes (g ++ i ∷ [])) ≡ b → AreLongestRuns most (if b then g ∷ cut_after most (i ∷ []) is else cut_after most (g ++ i ∷ []) is)) [
  | true ↦ λ e. (some, fits, cut_full most g i [] is (over most (group_bytes (g ++ i ∷ [])) e), cut_runs most (i ∷ []) is (one_some i []) alone.0 alone.1)
  | false ↦ λ e. cut_runs most (g ++ i ∷ []) is (one_more g i) (within_limit most (group_bytes (g ++ i ∷ [])) e) alone.1
] refl

-- ---- groups as long as a body can hold are those that are cut

le_trans : (a b c : ℕ) → a ≤ b → b ≤ c → a ≤ c
le_trans a b c x y = omega (arith, x, y)

run_is_cut : (most : ℕ) (p r : List Item) (gs : List (List Item)) → FitsBody most (items_board (p ++ r)) → IsFull most (p ++ r) gs → AreLongestRuns most gs → AreNext empty_board (p ++ r) → cut_after most p (r ++ items_of_groups gs) ≡ (p ++ r) ∷ cut_items most (items_of_groups gs)
run_is_cut most p [] [] fits full runs next = ap (λ l. l ∷ []) (sym (append-nil p))
run_is_cut most p [] ([] ∷ gs) fits full runs next = absurd (runs.0 refl)
run_is_cut most p [] ((i ∷ is) ∷ gs) fits full runs next =
    ap (λ b. if b then p ∷ cut_after most (i ∷ []) (is ++ items_of_groups gs) else cut_after most (p ++ i ∷ []) (is ++ items_of_groups gs)) (is_over most (group_bytes (p ++ i ∷ [])) (subst (λ l. most < group_bytes (l ++ i ∷ [])) (append-nil p) full))
    ∙ ap (λ l. l ∷ cut_after most (i ∷ []) (is ++ items_of_groups gs)) (sym (append-nil p))
run_is_cut most p (i ∷ r) gs fits full runs next =
    ap (λ b. if b then p ∷ cut_after most (i ∷ []) (r ++ items_of_groups gs) else cut_after most (p ++ i ∷ []) (r ++ items_of_groups gs))
    (is_within most (group_bytes (p ++ i ∷ [])) (le_trans (group_bytes (p ++ i ∷ [])) (group_bytes ((p ++ i ∷ []) ++ r)) most (prefix_bytes (p ++ i ∷ []) r (subst (λ l. AreNext empty_board l) (sym (append_one p i r)) next)) (subst (λ l. FitsBody most (items_board l)) (sym (append_one p i r)) fits)))
    ∙ run_is_cut most (p ++ i ∷ []) r gs (subst (λ l. FitsBody most (items_board l)) (sym (append_one p i r)) fits) (subst (λ l. IsFull most l gs) (sym (append_one p i r)) full) runs (subst (λ l. AreNext empty_board l) (sym (append_one p i r)) next)
    ∙ ap (λ l. l ∷ cut_items most (items_of_groups gs)) (append_one p i r)

next_parts : (xs ys : List Item) → AreNext empty_board (xs ++ ys) → AreNext empty_board xs
next_parts xs ys next = next_first xs (rise_first xs ys next.rise) (all_first IsItem xs ys next.within)

pub runs_are_cut : (most : ℕ) (gs : List (List Item)) → AreLongestRuns most gs → AreNext empty_board (items_of_groups gs) → gs ≡ cut_items most (items_of_groups gs)
runs_are_cut most [] runs next = refl
runs_are_cut most ([] ∷ gs) runs next = absurd (runs.0 refl)
runs_are_cut most ((i ∷ r) ∷ gs) runs next =
    ap (λ l. (i ∷ r) ∷ l) (runs_are_cut most gs runs.3 (next_rest (i ∷ r) (items_of_groups gs) next))
    ∙ sym (run_is_cut most (i ∷ []) r gs runs.1 runs.2 runs.3 (next_parts (i ∷ r) (items_of_groups gs) next))
  where
    rest_rise : (xs ys : List Item) → ItemsRise (xs ++ ys) → ItemsRise ys
    rest_rise [] ys h = h
    rest_rise (x ∷ xs) ys h = rest_rise xs ys h.1

    rest_all : (xs ys : List Item) → AllByRecursion IsItem (xs ++ ys) → AllByRecursion IsItem ys
    rest_all [] ys h = h
    rest_all (x ∷ xs) ys h = rest_all xs ys h.1

    next_rest : (xs ys : List Item) → AreNext empty_board (xs ++ ys) → AreNext empty_board ys
    next_rest xs ys next = next_first ys (rest_rise xs ys next.rise) (rest_all xs ys next.within)

-- ---- the pieces that are fed are the boards of the groups

last_piece : (most : ℕ) (ds : List BoardValue) (b : BoardValue) → empty_bytes < body_length b → pieces_with (cut_with most ds b) ≡ ds ++ b ∷ []
last_piece most ds b lt = ap (λ t. if t then ds ++ b ∷ [] else ds) (test (body_length b) lt)
  where
    test : (n : ℕ) → empty_bytes < n → nat_lt empty_bytes n ≡ true
    test n lt = grind (arith, nat_tests)

lt_trans : (a b c : ℕ) → a < b → b < c → a < c
lt_trans a b c x y = omega (arith, x, y)

fed_groups : (most : ℕ) (ds : List BoardValue) (g is : List Item) → AreNext (items_board g) is → empty_bytes < group_bytes g → pieces_with (fed_all (cut_with most ds (items_board g)) is) ≡ ds ++ map items_board (cut_after most g is)
fed_groups most ds g [] next some = last_piece most ds (items_board g) some
fed_groups most ds g (i ∷ is) next some =
    let e : items_board (g ++ i ∷ []) ≡ board_join (items_board g) (item_board i) = with_append empty_board g (i ∷ []) in
    let first : AreNext empty_board (i ∷ is) = next_first (i ∷ is) next.rise next.within in
    elim (nat_lt most (body_length (board_join (items_board g) (item_board i)))) as (λ b. pieces_with (fed_all (put_item (if b then turned (cut_with most ds (items_board g)) else cut_with most ds (items_board g)) i) is) ≡ ds ++ map items_board (if b then g ∷ cut_after most (i ∷ []) is else cut_after most (g ++ i ∷ []) is)) [
      | true ↦ fed_groups most (ds ++ items_board g ∷ []) (i ∷ []) is (next_put empty_board i is first) (longer empty_board i is first) ∙ append_one ds (items_board g) (map items_board (cut_after most (i ∷ []) is))
      | false ↦ subst (λ b. pieces_with (fed_all (cut_with most ds b) is) ≡ ds ++ map items_board (cut_after most (g ++ i ∷ []) is)) e (fed_groups most ds (g ++ i ∷ []) is (subst (λ b. AreNext b is) (sym e) (next_put (items_board g) i is next)) (subst (λ b. empty_bytes < body_length b) (sym e) (lt_trans empty_bytes (group_bytes g) (body_length (board_join (items_board g) (item_board i))) some (longer (items_board g) i is next))))
    ]
    ∙ ap (λ v. ds ++ map items_board (if nat_lt most (body_length v) then g ∷ cut_after most (i ∷ []) is else cut_after most (g ++ i ∷ []) is)) (sym e)

-- what is fed to a board that nothing is cut of
pub fed_is_cut : (most : ℕ) (is : List Item) → AreNext empty_board is → AllByRecursion (FitsAlone most) is → pieces_with (fed_all (uncut most) is) ≡ map items_board (cut_items most is)
fed_is_cut most [] next alone = refl
fed_is_cut most (i ∷ is) next alone =
    ap (λ b. pieces_with (fed_all (put_item (if b then turned (uncut most) else (uncut most)) i) is)) (is_within most (body_length (board_join empty_board (item_board i))) alone.0)
    ∙ fed_groups most [] (i ∷ []) is (next_put empty_board i is next) (longer empty_board i is next)
