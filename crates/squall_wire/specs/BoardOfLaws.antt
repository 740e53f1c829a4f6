-- The board of lists has those lists, and the board of a board's lists is that board.
use Rattle.std.specs.Prelude.{◌≡◌, ℕ, ◌≤◌, Bool, true, false, ◌||◌, List, [], ◌∷◌, refl}
use Rattle.std.proofs.Common.{sym, ap, ◌∙◌}
use Rattle.std.proofs.lemmas.Bool.{true≢false}
use Rattle.std.specs.Cmp.{first_so, second_so}
use Rattle.std.specs.List.{AllByRecursion}
use Rattle.squall_join.specs.declared.flat.Flat.{Flat}
use Rattle.squall_report.specs.Issues.{PlanPair}
use Rattle.squall_report.specs.Cells.{CellPlace}
use Rattle.squall_report.specs.Facts.{Fact, LoadedKey, DonePart, OpenedSub}
use Rattle.squall_report.specs.Told.{Told, both_issued, SameTold, TellsBoth}
use Rattle.squall_report.specs.ToldLaws.{issued_assoc, issued_neutral}
use Rattle.squall_board.specs.declared.opening.Opening.{Opening}
use Rattle.squall_board.specs.Boards.{CellValue, BoardValue, IsBoard, empty_board, board_join, opening_board, issue_board, cell_board, told, told_by_cell, told_by_count, told_by_issue}
use Rattle.squall_board.specs.BoardLaws.{join_is, empty_is, cell_tells, count_tells, issue_tells, cell_board_is, opening_board_is, issue_board_is, joined_tells}
use Rattle.squall_board.specs.Listed.{CellEntry, entry_value, has_spans, IsCell, IsOpening, openings_say, entries_say, entries_issue, told_by_lists, openings_of, issues_of, cells_of}
use Rattle.squall_board.specs.ListedLaws.{any_none, openings_listed, issues_within, cells_listed}
use Rattle.squall_board.specs.ToldListLaws.{lists_equal}
use Rattle.squall_board.specs.OneListLaws.{one_openings, one_issues, one_cells}
use Rattle.squall_wire.specs.Limits.{no_place}
use Rattle.squall_wire.specs.Messages.{BoardLists, lists_with, lists_of, AreLists}
use Rattle.squall_wire.specs.BoardOf.{with_openings, with_issues, with_cells, board_of_lists}
use Rattle.squall_wire.specs.TurnLaws.{openings_rise, issues_rise, cells_rise}

-- ---- tests

or_assoc : (a b c : Bool) → ((a || b) || c) ≡ (a || (b || c))
or_assoc true b c = refl
or_assoc false b c = refl

or_false : (a : Bool) → a ≡ (a || false)
or_false true = refl
or_false false = refl

-- ---- a board that tells what another told, and more

record Tells (new old : BoardValue) (more : Told) : Type 0 where
  is : IsBoard new
  both : TellsBoth (told new) (told old) more

-- what a board tells after two steps
two_steps : (new now old a b c : Told) → TellsBoth now old a → TellsBoth new now b → TellsBoth c a b → TellsBoth new old c
two_steps new now old a b c x y both = record {
  facts = λ f. y.facts f ∙ ap (λ v. v || b.says f) (x.facts f) ∙ or_assoc (old.says f) (a.says f) (b.says f) ∙ ap (λ v. old.says f || v) (sym (both.facts f));
  issues = λ n. y.issues n ∙ ap (λ v. both_issued v (b.issues n)) (x.issues n) ∙ issued_assoc (old.issues n) (a.issues n) (b.issues n) ∙ ap (both_issued (old.issues n)) (sym (both.issues n));
}

-- empty lists tell nothing
none_told : (old : Told) → TellsBoth old old (told_by_lists [] [] [])
none_told old = record { facts = λ f. or_false (old.says f); issues = λ n. sym (issued_neutral (old.issues n)) }

first_opening : (o : Opening) (os : List Opening) → TellsBoth (told_by_lists (o ∷ os) [] []) (told_by_count o.number o.count) (told_by_lists os [] [])
first_opening o os = record { facts = λ f. or_assoc ((told_by_count o.number o.count).says f) (openings_say os f) false; issues = λ n. refl }

first_issue : (e : ℕ × Flat PlanPair) (es : List (ℕ × Flat PlanPair)) → TellsBoth (told_by_lists [] (e ∷ es) []) (told_by_issue e.0 e.1) (told_by_lists [] es [])
first_issue e es = record { facts = λ f. refl; issues = λ n. refl }

first_cell : (c : CellEntry) (cs : List CellEntry) → TellsBoth (told_by_lists [] [] (c ∷ cs)) (told_by_cell c.cell (entry_value c)) (told_by_lists [] [] cs)
first_cell c cs = record { facts = λ f. refl; issues = λ n. refl }

-- ---- one list after another

openings_tell : (b : BoardValue) (os : List Opening) → IsBoard b → AllByRecursion IsOpening os → Tells (with_openings b os) b (told_by_lists os [] [])
openings_tell b [] is within = record { is = is; both = none_told (told b) }
openings_tell b (o ∷ os) is within =
    let one = opening_board o.number o.count in
    let fits = opening_board_is o.number o.count within.0.0 within.0.1 within.0.2 in
    let rest = openings_tell (board_join b one) os (join_is b one is fits) within.1 in
    record {
      is = rest.is;
      both = two_steps (told (with_openings (board_join b one) os)) (told (board_join b one)) (told b) (told_by_count o.number o.count) (told_by_lists os [] []) (told_by_lists (o ∷ os) [] [])
          (joined_tells b one (told_by_count o.number o.count) is fits (count_tells o.number o.count)) rest.both (first_opening o os);
    }

issues_tell : (b : BoardValue) (es : List (ℕ × Flat PlanPair)) → IsBoard b → AllByRecursion (λ e. 1 ≤ e.0) es → Tells (with_issues b es) b (told_by_lists [] es [])
issues_tell b [] is within = record { is = is; both = none_told (told b) }
issues_tell b (e ∷ es) is within =
    let one = issue_board e.0 e.1 in
    let fits = issue_board_is e.0 e.1 within.0 in
    let rest = issues_tell (board_join b one) es (join_is b one is fits) within.1 in
    record {
      is = rest.is;
      both = two_steps (told (with_issues (board_join b one) es)) (told (board_join b one)) (told b) (told_by_issue e.0 e.1) (told_by_lists [] es []) (told_by_lists [] (e ∷ es) [])
          (joined_tells b one (told_by_issue e.0 e.1) is fits (issue_tells e.0 e.1)) rest.both (first_issue e es);
    }

cell_fits : (c : CellEntry) → IsCell c → IsBoard (cell_board c.cell (entry_value c))
cell_fits c is = cell_board_is c.cell (entry_value c) (first_so _ _ is.entry) (is.spans, tt) (λ e. true≢false (sym (second_so _ _ is.entry) ∙ ap (λ (v : CellValue). v.second || has_spans v.first) e))

cells_tell : (b : BoardValue) (cs : List CellEntry) → IsBoard b → AllByRecursion IsCell cs → Tells (with_cells b cs) b (told_by_lists [] [] cs)
cells_tell b [] is within = record { is = is; both = none_told (told b) }
cells_tell b (c ∷ cs) is within =
    let one = cell_board c.cell (entry_value c) in
    let fits = cell_fits c within.0 in
    let rest = cells_tell (board_join b one) cs (join_is b one is fits) within.1 in
    record {
      is = rest.is;
      both = two_steps (told (with_cells (board_join b one) cs)) (told (board_join b one)) (told b) (told_by_cell c.cell (entry_value c)) (told_by_lists [] [] cs) (told_by_lists [] [] (c ∷ cs))
          (joined_tells b one (told_by_cell c.cell (entry_value c)) is fits (cell_tells c.cell (entry_value c))) rest.both (first_cell c cs);
    }

-- ---- the board of lists

-- it is a board, and tells what the lists tell
pub record TellsLists (d : BoardLists) : Type 0 where
  pub is : IsBoard (board_of_lists d)
  pub same : SameTold (told (board_of_lists d)) (told_by_lists d.openings d.issues d.cells)

told_by_all : (os : List Opening) (es : List (ℕ × Flat PlanPair)) (cs : List CellEntry) (a b c : BoardValue) → TellsBoth (told a) (told empty_board) (told_by_lists os [] []) → TellsBoth (told b) (told a) (told_by_lists [] es []) → TellsBoth (told c) (told b) (told_by_lists [] [] cs) → SameTold (told c) (told_by_lists os es cs)
told_by_all os es cs a b c x y z = record {
  facts = λ f. z.facts f ∙ ap (λ v. v || entries_say cs f) (y.facts f ∙ sym (or_false ((told a).says f)) ∙ x.facts f ∙ ap (λ v. v || (openings_say os f || false)) (nothing f) ∙ sym (or_false (openings_say os f)));
  issues = λ n. z.issues n ∙ issued_neutral ((told b).issues n) ∙ y.issues n ∙ ap (λ v. both_issued v (entries_issue es n)) (x.issues n);
}
  where
    nothing : (f : Fact) → (told empty_board).says f ≡ false
    nothing (LoadedKey c k) = refl
    nothing (DonePart c) = refl
    nothing (OpenedSub n s) = refl

pub lists_tell : (d : BoardLists) → AllByRecursion IsOpening d.openings → AllByRecursion (λ e. 1 ≤ e.0) d.issues → AllByRecursion IsCell d.cells → TellsLists d
lists_tell d openings issues cells =
    let x = openings_tell empty_board d.openings empty_is openings in
    let y = issues_tell (with_openings empty_board d.openings) d.issues x.is issues in
    let z = cells_tell (with_issues (with_openings empty_board d.openings) d.issues) d.cells y.is cells in
    record { is = z.is; same = told_by_all d.openings d.issues d.cells (with_openings empty_board d.openings) (with_issues (with_openings empty_board d.openings) d.issues) (board_of_lists d) x.both y.both z.both }

-- the board of the lists of a board is that board
pub lists_back : (b : BoardValue) → IsBoard b → board_of_lists (lists_of b) ≡ b
lists_back b is =
    let t = lists_tell (lists_of b) (openings_listed b is).within (issues_within b is) (cells_listed b is).within in
    lists_equal b (board_of_lists (lists_of b)) is t.is t.same

all_say : {X : Type 0} (g : X → Bool) → ((x : X) → g x ≡ false) → (xs : List X) → AllByRecursion (λ x. g x ≡ false) xs
all_say g none [] = tt
all_say g none (x ∷ xs) = (none x, all_say g none xs)

no_load : (os : List Opening) (c : CellPlace) (k : ℕ) → openings_say os (LoadedKey c k) ≡ false
no_load os c k = any_none _ os (all_say _ (λ o. refl) os)

no_completion : (os : List Opening) (c : CellPlace) → openings_say os (DonePart c) ≡ false
no_completion os c = any_none _ os (all_say _ (λ o. refl) os)

no_opening : (cs : List CellEntry) (n s : ℕ) → entries_say cs (OpenedSub n s) ≡ false
no_opening cs n s = any_none _ cs (all_say _ (λ c. refl) cs)

-- the board of lists that fit has those lists
pub lists_kept : (d : BoardLists) → AreLists d → lists_of (board_of_lists d) ≡ d
lists_kept d are =
    let b = board_of_lists d in
    let os = openings_rise 0 d.openings are.openings.turn in
    let es = issues_rise 0 d.issues are.issues.turn in
    let cs = cells_rise no_place d.cells are.cells.turn in
    let t = lists_tell d os.within es.within cs.within in
    let p : d.openings ≡ openings_of b = one_openings b d.openings t.is (record {
      rise = os.rise;
      within = os.within;
      opened = λ n s. t.same.facts (OpenedSub n s) ∙ ap (λ v. openings_say d.openings (OpenedSub n s) || v) (no_opening d.cells n s) ∙ sym (or_false (openings_say d.openings (OpenedSub n s)));
    }) in
    let q : d.issues ≡ issues_of b = one_issues b d.issues t.is (record { rise = es.rise; within = es.within; known = es.known; issued = t.same.issues }) in
    let r : d.cells ≡ cells_of b = one_cells b d.cells t.is (record {
      rise = cs.rise;
      within = cs.within;
      loaded = λ c k. t.same.facts (LoadedKey c k) ∙ ap (λ v. v || entries_say d.cells (LoadedKey c k)) (no_load d.openings c k);
      done = λ c. t.same.facts (DonePart c) ∙ ap (λ v. v || entries_say d.cells (DonePart c)) (no_completion d.openings c);
    }) in
    λ i. lists_with (sym p i) (sym q i) (sym r i)
