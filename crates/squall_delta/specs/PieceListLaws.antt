-- The lists of a piece with one item more, and how long its body is.
use Rattle.std.specs.Prelude.{◌≡◌, ◌≢◌, ℕ, suc, ◌+◌, ◌<◌, ◌≤◌, max, Bool, true, false, ◌||◌, ◌&&◌, List, [], ◌∷◌, ◌++◌, length, refl}
use Rattle.std.proofs.Common.{sym, ap, ◌∙◌, arith, inl, length-append}
use Rattle.std.proofs.lemmas.Bool.{true≢false}
use Rattle.std.proofs.lemmas.List.Folds.{list_any-append}
use Rattle.std.specs.List.{flat_map, AllByRecursion}
use Rattle.std.specs.Cmp.{first_so}
use Rattle.std.specs.Ordering.{nat_cmp}
use Rattle.squall_span.specs.Spans.{Interval}
use Rattle.squall_join.specs.declared.flat.Flat.{Flat}
use Rattle.squall_join.specs.declared.flat.Flat.TheVariants.{Unknown, One, Clash}
use Rattle.squall_join.specs.Pairs.{pair_of}
use Rattle.squall_join.specs.Entries.{merged}
use Rattle.squall_report.specs.Issues.{PlanPair}
use Rattle.squall_report.specs.Cells.{CellPlace, is_cell_place}
use Rattle.squall_report.specs.Facts.{Fact, LoadedKey, DonePart, OpenedSub}
use Rattle.squall_report.specs.Told.{both_issued}
use Rattle.squall_report.specs.ToldLaws.{issued_assoc, issued_neutral}
use Rattle.squall_board.specs.declared.opening.Opening.{Opening}
use Rattle.squall_board.specs.Boards.{CellValue, BoardValue, IsBoard, openings_in, issues_in, cells_in, board_join, opening_board, issue_board, cell_board, one_issue, count_says, told_by_cell, told_by_count, told_by_issue}
use Rattle.squall_board.specs.BoardLaws.{join_is, cell_tells, count_tells, issue_tells, cell_board_is, opening_board_is, issue_board_is, joined_tells}
use Rattle.squall_board.specs.Listed.{CellEntry, entry_value, has_spans, IsCell, entry_says, ComesBefore, cells_of_numbers, cells_of, openings_of_counts, openings_of, openings_say, IsOpening, OpeningsRise, issues_of, entries_issue, IssuesRise}
use Rattle.squall_board.specs.ListedLaws.{all_weaker, openings_listed, issues_listed, cells_listed}
use Rattle.squall_board.specs.OneListLaws.{one_openings, one_issues, one_cells}
use Rattle.squall_wire.specs.Messages.{BoardLists, lists_with, lists_of, spell_lists}
use Rattle.squall_wire.specs.Spelling.{spell_list, spell_some, spell_opening, spell_issue, spell_cell}
use Rattle.squall_delta.specs.Items.{Item, opening, issue, done, loaded, item_board}
use Rattle.squall_delta.specs.Pieces.{body_length}
use Rattle.squall_delta.specs.Cutting.{add_cell, done_entry, span_entry, add_item, EntryFollows, ItemFollows, IsItem, has_some, issue_cost, item_cost}
use Rattle.squall_delta.specs.PieceCellLaws.{rise_added, all_added, joined_cell, say_added, flat_append, length_added}

-- ---- lists

pub all_append : {X : Type 0} (P : X → Type 0) (xs ys : List X) → AllByRecursion P xs → AllByRecursion P ys → AllByRecursion P (xs ++ ys)
all_append P [] ys p q = q
all_append P (x ∷ xs) ys p q = (p.0, all_append P xs ys p.1 q)

-- a map merged with no entry
merged_none : {V : Type 0} (join : V → V → V) (es : List (ℕ × V)) → es ≡ merged nat_cmp join es []
merged_none join [] = refl
merged_none join (e ∷ es) = refl

-- ---- openings

openings_rise_more : (os : List Opening) (o : Opening) → OpeningsRise os → AllByRecursion (λ q. q.number < o.number) os → OpeningsRise (os ++ o ∷ [])
openings_rise_more [] o rise before = (tt, tt)
openings_rise_more (q ∷ os) o rise before = (all_append (λ p. q.number < p.number) os (o ∷ []) rise.0 (before.0, tt), openings_rise_more os o rise.1 before.1)

or_false : (a : Bool) → (a || false) ≡ a
or_false true = refl
or_false false = refl

openings_say_more : (os : List Opening) (o : Opening) (f : Fact) → openings_say (os ++ o ∷ []) f ≡ (openings_say os f || count_says o.number o.count f)
openings_say_more os o f = list_any-append (λ q. count_says q.number q.count f) os (o ∷ []) ∙ ap (λ b. openings_say os f || b) (or_false (count_says o.number o.count f))

opening_added : (b : BoardValue) (o : Opening) → IsBoard b → IsOpening o → AllByRecursion (λ q. q.number < o.number) (openings_of b) → openings_of (board_join b (opening_board o.number o.count)) ≡ openings_of b ++ o ∷ []
opening_added b o is within before =
    let one = opening_board_is o.number o.count within.0 within.1 within.2 in
    let old = openings_listed b is in
    let tells = joined_tells b (opening_board o.number o.count) (told_by_count o.number o.count) is one (count_tells o.number o.count) in
    sym (one_openings (board_join b (opening_board o.number o.count)) (openings_of b ++ o ∷ []) (join_is b (opening_board o.number o.count) is one) (record {
      rise = openings_rise_more (openings_of b) o old.rise before;
      within = all_append IsOpening (openings_of b) (o ∷ []) old.within (within, tt);
      opened = λ n s. tells.facts (OpenedSub n s) ∙ ap (λ v. v || count_says o.number o.count (OpenedSub n s)) (old.opened n s) ∙ sym (openings_say_more (openings_of b) o (OpenedSub n s));
    }))

-- ---- issues

issues_rise_more : (es : List (ℕ × Flat PlanPair)) (e : ℕ × Flat PlanPair) → IssuesRise es → AllByRecursion (λ q. q.0 < e.0) es → IssuesRise (es ++ e ∷ [])
issues_rise_more [] e rise before = (tt, tt)
issues_rise_more (q ∷ es) e rise before = (all_append (λ p. q.0 < p.0) es (e ∷ []) rise.0 (before.0, tt), issues_rise_more es e rise.1 before.1)

unknown_first : (x : Flat PlanPair) → both_issued Unknown x ≡ x
unknown_first Unknown = refl
unknown_first (One p) = refl
unknown_first Clash = refl

entries_issue_more : (es : List (ℕ × Flat PlanPair)) (e : ℕ × Flat PlanPair) (n : ℕ) → entries_issue (es ++ e ∷ []) n ≡ both_issued (entries_issue es n) (one_issue e.0 e.1 n)
entries_issue_more [] e n = issued_neutral (one_issue e.0 e.1 n) ∙ sym (unknown_first (one_issue e.0 e.1 n))
entries_issue_more (q ∷ es) e n = ap (both_issued (one_issue q.0 q.1 n)) (entries_issue_more es e n) ∙ sym (issued_assoc (one_issue q.0 q.1 n) (entries_issue es n) (one_issue e.0 e.1 n))

issue_added : (b : BoardValue) (e : ℕ × Flat PlanPair) → IsBoard b → 1 ≤ e.0 → e.1 ≢ Unknown → AllByRecursion (λ q. q.0 < e.0) (issues_of b) → issues_of (board_join b (issue_board e.0 e.1)) ≡ issues_of b ++ e ∷ []
issue_added b e is some known before =
    let one = issue_board_is e.0 e.1 some in
    let old = issues_listed b is in
    let tells = joined_tells b (issue_board e.0 e.1) (told_by_issue e.0 e.1) is one (issue_tells e.0 e.1) in
    sym (one_issues (board_join b (issue_board e.0 e.1)) (issues_of b ++ e ∷ []) (join_is b (issue_board e.0 e.1) is one) (record {
      rise = issues_rise_more (issues_of b) e old.rise before;
      within = all_append (λ q. 1 ≤ q.0) (issues_of b) (e ∷ []) old.within (some, tt);
      known = all_append (λ q. q.1 ≢ Unknown) (issues_of b) (e ∷ []) old.known (known, tt);
      issued = λ n. tells.issues n ∙ ap (λ v. both_issued v (one_issue e.0 e.1 n)) (old.issued n) ∙ sym (entries_issue_more (issues_of b) e n);
    }))

-- ---- cells

pub cell_fits : (c : CellEntry) → IsCell c → IsBoard (cell_board c.cell (entry_value c))
cell_fits c is = cell_board_is c.cell (entry_value c) (first_so _ _ is.entry) (is.spans, tt) (λ e. true≢false (sym (says_some c is) ∙ ap (λ (v : CellValue). v.second || has_spans v.first) e))
  where
    second_of : (a b : Bool) → (a && b) ≡ true → b ≡ true
    second_of true b e = e
    second_of false b e = absurd (true≢false (sym e))

    says_some : (c : CellEntry) → IsCell c → (c.complete || has_spans c.spans) ≡ true
    says_some c is = second_of (is_cell_place c.cell) _ is.entry

cell_added : (b : BoardValue) (d : CellEntry) → IsBoard b → IsCell d → AllByRecursion (λ q. EntryFollows q d) (cells_of b) → cells_of (board_join b (cell_board d.cell (entry_value d))) ≡ add_cell (cells_of b) d
cell_added b d is within follows =
    let one = cell_fits d within in
    let old = cells_listed b is in
    let tells = joined_tells b (cell_board d.cell (entry_value d)) (told_by_cell d.cell (entry_value d)) is one (cell_tells d.cell (entry_value d)) in
    sym (one_cells (board_join b (cell_board d.cell (entry_value d))) (add_cell (cells_of b) d) (join_is b (cell_board d.cell (entry_value d)) is one) (record {
      rise = rise_added (cells_of b) d old.rise follows;
      within = all_added IsCell (cells_of b) d (λ q k g. joined_cell q d k within g) within old.within follows;
      loaded = λ c k. tells.facts (LoadedKey c k) ∙ ap (λ v. v || entry_says d (LoadedKey c k)) (old.loaded c k) ∙ sym (say_added (cells_of b) d (LoadedKey c k) follows);
      done = λ c. tells.facts (DonePart c) ∙ ap (λ v. v || entry_says d (DonePart c)) (old.done c) ∙ sym (say_added (cells_of b) d (DonePart c) follows);
    }))

-- ---- one item more

pub done_is : (c : CellPlace) → is_cell_place c ≡ true → IsCell (done_entry c)
done_is c place = record { entry = ap (λ b. b && true) place; spans = (tt, tt) }

-- a completion that comes after the cells follows each of them
pub follow_done : (cs : List CellEntry) (c : CellPlace) → AllByRecursion (λ q. ComesBefore q (done_entry c)) cs → AllByRecursion (λ q. EntryFollows q (done_entry c)) cs
follow_done cs c h = all_weaker (λ q. ComesBefore q (done_entry c)) (λ q. EntryFollows q (done_entry c)) cs h (λ q lt. inl lt)

pub span_is : (c : CellPlace) (s : Interval) → IsItem (loaded c s) → IsCell (span_entry c s)
span_is c s within = record { entry = ap (λ b. b && true) within.0; spans = ((within.1, tt, tt), (within.2, tt)) }

-- the board of an item is a board
pub item_board_is : (i : Item) → IsItem i → IsBoard (item_board i)
item_board_is (opening o) within = opening_board_is o.number o.count within.0 within.1 within.2
item_board_is (issue e) within = issue_board_is e.0 e.1 within.0
item_board_is (done c) within = cell_fits (done_entry c) (done_is c within)
item_board_is (loaded c s) within = cell_fits (span_entry c s) (span_is c s within)

same_lists : (os us : List Opening) (es hs : List (ℕ × Flat PlanPair)) (cs ds : List CellEntry) → os ≡ us → es ≡ hs → cs ≡ ds → lists_with os es cs ≡ lists_with us hs ds
same_lists os us es hs cs ds p q r = λ i. lists_with (p i) (q i) (r i)

openings_kept : (b : BoardValue) → openings_of_counts (merged nat_cmp max (openings_in b) []) ≡ openings_of b
openings_kept b = ap openings_of_counts (sym (merged_none max (openings_in b)))

issues_kept : (b : BoardValue) → merged nat_cmp both_issued (issues_in b) [] ≡ issues_of b
issues_kept b = sym (merged_none both_issued (issues_in b))

cells_kept : (b c : BoardValue) → cells_in c ≡ [] → cells_of (board_join b c) ≡ cells_of b
cells_kept b c e = ap cells_of_numbers (ap (λ l. cells_in (board_join b (with_cells l))) e ∙ sym (merged_none _ (cells_in b)))
  where
    with_cells : List (ℕ × List (ℕ × List (ℕ × CellValue))) → BoardValue
    with_cells l = pair_of c.first l

-- the lists of the board with one item more
pub lists_added : (b : BoardValue) (i : Item) → IsBoard b → IsItem i → ItemFollows (lists_of b) i → lists_of (board_join b (item_board i)) ≡ add_item (lists_of b) i
lists_added b (opening o) is within follows = same_lists _ _ _ _ _ _ (opening_added b o is within follows) (issues_kept b) (cells_kept b (opening_board o.number o.count) refl)
lists_added b (issue (n, Unknown)) is within follows = absurd (within.1 refl)
lists_added b (issue (n, One pair)) is within follows = same_lists _ _ _ _ _ _ (openings_kept b) (issue_added b (n, One pair) is within.0 within.1 follows) (cells_kept b (issue_board n (One pair)) refl)
lists_added b (issue (n, Clash)) is within follows = same_lists _ _ _ _ _ _ (openings_kept b) (issue_added b (n, Clash) is within.0 within.1 follows) (cells_kept b (issue_board n Clash) refl)
lists_added b (done c) is within follows = same_lists _ _ _ _ _ _ (openings_kept b) (issues_kept b) (cell_added b (done_entry c) is (done_is c within) (follow_done (cells_of b) c follows))
lists_added b (loaded c s) is within follows = same_lists _ _ _ _ _ _ (openings_kept b) (issues_kept b) (cell_added b (span_entry c s) is (span_is c s within) follows)

-- ---- how long it is

abbrev four_more : ℕ → ℕ
four_more n = suc (suc (suc (suc n)))

four : (n : ℕ) → four_more n ≡ 4 + n
four n = omega arith

list_bytes : {X : Type 0} (f : X → List ℕ) (xs : List X) → length (spell_list f xs) ≡ 4 + length (flat_map f xs)
list_bytes f xs = four (length (flat_map f xs))

lists_bytes : (d : BoardLists) → length (spell_lists d) ≡ (4 + length (flat_map spell_opening d.openings)) + (length (spell_some spell_issue d.issues) + (4 + length (flat_map spell_cell d.cells)))
lists_bytes d =
    length-append (spell_list spell_opening d.openings) (spell_some spell_issue d.issues ++ spell_list spell_cell d.cells)
    ∙ ap (λ n. length (spell_list spell_opening d.openings) + n) (length-append (spell_some spell_issue d.issues) (spell_list spell_cell d.cells))
    ∙ ap (λ n. n + (length (spell_some spell_issue d.issues) + length (spell_list spell_cell d.cells))) (list_bytes spell_opening d.openings)
    ∙ ap (λ n. (4 + length (flat_map spell_opening d.openings)) + (length (spell_some spell_issue d.issues) + n)) (list_bytes spell_cell d.cells)

right_zero : (n : ℕ) → n + 0 ≡ n
right_zero n = omega arith

flat_more : {X : Type 0} (f : X → List ℕ) (xs : List X) (x : X) → length (flat_map f (xs ++ x ∷ [])) ≡ length (flat_map f xs) + length (f x)
flat_more f xs x = flat_append f xs (x ∷ []) ∙ ap (λ n. length (flat_map f xs) + n) (length-append (f x) [] ∙ right_zero (length (f x)))

issue_bytes : (es : List (ℕ × Flat PlanPair)) (e : ℕ × Flat PlanPair) → length (spell_some spell_issue (es ++ e ∷ [])) ≡ length (spell_some spell_issue es) + issue_cost (has_some es) (length (spell_issue e))
issue_bytes [] e = list_bytes spell_issue (e ∷ []) ∙ ap (λ n. 4 + n) (length-append (spell_issue e) [] ∙ right_zero (length (spell_issue e))) ∙ swap (length (spell_issue e))
  where
    swap : (n : ℕ) → 4 + n ≡ 0 + (n + 4)
    swap n = omega arith
issue_bytes (q ∷ es) e =
    list_bytes spell_issue (q ∷ (es ++ e ∷ []))
    ∙ ap (λ n. 4 + n) (flat_more spell_issue (q ∷ es) e)
    ∙ assoc (length (flat_map spell_issue (q ∷ es))) (length (spell_issue e))
    ∙ ap (λ n. n + length (spell_issue e)) (sym (list_bytes spell_issue (q ∷ es)))
  where
    assoc : (a b : ℕ) → 4 + (a + b) ≡ (4 + a) + b
    assoc a b = omega arith

put_first : (a b c k : ℕ) → (4 + (a + k)) + (b + (4 + c)) ≡ ((4 + a) + (b + (4 + c))) + k
put_first a b c k = omega arith

put_second : (a b c k : ℕ) → (4 + a) + ((b + k) + (4 + c)) ≡ ((4 + a) + (b + (4 + c))) + k
put_second a b c k = omega arith

put_third : (a b c k : ℕ) → (4 + a) + (b + (4 + (c + k))) ≡ ((4 + a) + (b + (4 + c))) + k
put_third a b c k = omega arith

-- what an item adds to the bytes of lists
pub bytes_added : (d : BoardLists) (i : Item) → length (spell_lists (add_item d i)) ≡ length (spell_lists d) + item_cost d i
bytes_added d (opening o) =
    lists_bytes (add_item d (opening o))
    ∙ ap (λ n. (4 + n) + (length (spell_some spell_issue d.issues) + (4 + length (flat_map spell_cell d.cells)))) (flat_more spell_opening d.openings o)
    ∙ put_first (length (flat_map spell_opening d.openings)) (length (spell_some spell_issue d.issues)) (length (flat_map spell_cell d.cells)) 8
    ∙ ap (λ n. n + 8) (sym (lists_bytes d))
bytes_added d (issue e) =
    lists_bytes (add_item d (issue e))
    ∙ ap (λ n. (4 + length (flat_map spell_opening d.openings)) + (n + (4 + length (flat_map spell_cell d.cells)))) (issue_bytes d.issues e)
    ∙ put_second (length (flat_map spell_opening d.openings)) (length (spell_some spell_issue d.issues)) (length (flat_map spell_cell d.cells)) (item_cost d (issue e))
    ∙ ap (λ n. n + item_cost d (issue e)) (sym (lists_bytes d))
bytes_added d (done c) =
    lists_bytes (add_item d (done c))
    ∙ ap (λ n. (4 + length (flat_map spell_opening d.openings)) + (length (spell_some spell_issue d.issues) + (4 + n))) (length_added d.cells (done_entry c))
    ∙ put_third (length (flat_map spell_opening d.openings)) (length (spell_some spell_issue d.issues)) (length (flat_map spell_cell d.cells)) (item_cost d (done c))
    ∙ ap (λ n. n + item_cost d (done c)) (sym (lists_bytes d))
bytes_added d (loaded c s) =
    lists_bytes (add_item d (loaded c s))
    ∙ ap (λ n. (4 + length (flat_map spell_opening d.openings)) + (length (spell_some spell_issue d.issues) + (4 + n))) (length_added d.cells (span_entry c s))
    ∙ put_third (length (flat_map spell_opening d.openings)) (length (spell_some spell_issue d.issues)) (length (flat_map spell_cell d.cells)) (item_cost d (loaded c s))
    ∙ ap (λ n. n + item_cost d (loaded c s)) (sym (lists_bytes d))

-- what an item adds to the body of a piece
pub length_put : (b : BoardValue) (i : Item) → IsBoard b → IsItem i → ItemFollows (lists_of b) i → body_length (board_join b (item_board i)) ≡ body_length b + item_cost (lists_of b) i
length_put b i is within follows = ap (λ d. length (spell_lists d)) (lists_added b i is within follows) ∙ bytes_added (lists_of b) i
