-- The digest of a board is in order and within its limits.
use Rattle.std.specs.Prelude.{◌≡◌, ◌≢◌, ℕ, ◌<◌, ◌≤◌, ◌+◌, ◌&&◌, true, nat_lt, nat_le, length, map, List, [], ◌∷◌, ◌++◌, refl}
use Rattle.std.proofs.Common.{arith}
use Rattle.std.proofs.lemmas.Bool.Decides.{nat_tests}
use Rattle.std.specs.Cmp.{first_so}
use Rattle.std.specs.List.{flat_map, AllByRecursion}
use Rattle.sha2.proofs.Facts256.{length-sha256}
use Rattle.squall_key.specs.Keys.{part_limit}
use Rattle.squall_join.specs.declared.flat.Flat.{Flat}
use Rattle.squall_report.specs.Issues.{PlanPair}
use Rattle.squall_report.specs.Cells.{place_at, is_cell_place}
use Rattle.squall_board.specs.declared.opening.Opening.{Opening}
use Rattle.squall_board.specs.Boards.{Parts, Subs, Cells, BoardValue, cells_in, IsBoard}
use Rattle.squall_board.specs.Listed.{IsOpening, IssuesRise, AreCellsOfParts, AreCellsOfSubs, AreCellsOfNumbers, AreSomeRows, openings_of, issues_of}
use Rattle.squall_board.specs.ListedLaws.{KeysRise, SubsRise, keys_rise, numbers_keys, all_weaker, openings_listed, issues_listed, board_cells}
use Rattle.squall_board.specs.RowLaws.{some_rows}
use Rattle.squall_wire.specs.declared.digest.IssueRow.{IssueRow}
use Rattle.squall_wire.specs.declared.digest.DigestRow.{DigestRow}
use Rattle.squall_wire.specs.DigestValue.{IsDigest}
use Rattle.squall_wire.specs.Fits.{IsWordOpening}
use Rattle.squall_wire.specs.FitsLaws.{openings_turn}
use Rattle.squall_wire.specs.Limits.{word_limit, AreInTurn, FitsOpening, after_opening, FitsIssueRow, after_issue_row, row_in_range, is_later_row, FitsRow, after_row}
use Rattle.squall_delta.specs.Hashes.{row_of, issue_row_of, rows_of, digest_of}

lt_test : (a b : ℕ) → a < b → nat_lt a b ≡ true
lt_test a b lt = grind (arith, nat_tests)

-- ---- numbers that rise are few

openings_few : (last : ℕ) (os : List Opening) → last < word_limit → AreInTurn FitsOpening after_opening last os → last + length os < word_limit
openings_few last [] lt turn = omega (arith, lt)
openings_few last (o ∷ os) lt turn =
    let order = turn.0.order in
    let rise : last < o.number = grind (arith, nat_tests) in
    omega (arith, openings_few o.number os turn.0.word turn.1, rise)

issue_rows_few : (last : ℕ) (rs : List IssueRow) → last < word_limit → AreInTurn FitsIssueRow after_issue_row last rs → last + length rs < word_limit
issue_rows_few last [] lt turn = omega (arith, lt)
issue_rows_few last (r ∷ rs) lt turn =
    let order = turn.0.order in
    let rise : last < r.number = grind (arith, nat_tests) in
    omega (arith, issue_rows_few r.number rs turn.0.word turn.1, rise)

-- ---- issues

issue_rows_turn : (last : ℕ) (es : List (ℕ × Flat PlanPair)) → AllByRecursion (λ e. last < e.0) es → IssuesRise es → AllByRecursion (λ e. 1 ≤ e.0) es → AllByRecursion (λ e. e.0 < word_limit) es → AreInTurn FitsIssueRow after_issue_row last (map issue_row_of es)
issue_rows_turn last [] above rise within words = tt
issue_rows_turn last (e ∷ es) above rise within words = (
  record { word = words.0; hash = length-sha256 _; range = some_number e.0 within.0; order = lt_test last e.0 above.0 },
  issue_rows_turn e.0 es rise.0 rise.1 within.1 words.1,
)
  where
    some_number : (n : ℕ) → 1 ≤ n → nat_le 1 n ≡ true
    some_number n le = grind (arith, nat_tests)

-- ---- rows

place_within : (n s p : ℕ) → is_cell_place (place_at n s p) ≡ true → (nat_le 1 n && nat_lt s part_limit) ≡ true
place_within n s p h = grind (arith, nat_tests)

place_of_row : (n s : ℕ) (parts : Parts) → parts ≢ [] → AreCellsOfParts n s parts → row_in_range (row_of n (s, parts)) ≡ true
place_of_row n s [] some cells = absurd (some refl)
place_of_row n s (e ∷ es) some cells = place_within n s e.0 (first_so _ _ cells.0.entry)

-- the row comes after the last place of a list
abbrev After : ℕ × ℕ → ℕ → ℕ × Parts → Type 0
After last n e = is_later_row last (row_of n e) ≡ true

next_sub : (n s : ℕ) (e : ℕ × Parts) → s < e.0 → After (n, s) n e
next_sub n s e lt = grind (arith, nat_tests)

next_number : (last : ℕ × ℕ) (n : ℕ) (e : ℕ × Parts) → last.0 < n → After last n e
next_number last n e lt = grind (arith, nat_tests)

-- the rows of one number, and what comes after them
rows_turn : (n : ℕ) (last : ℕ × ℕ) (subs : Subs) (rest : List DigestRow) → n < word_limit → AllByRecursion (After last n) subs → KeysRise subs → AllByRecursion (λ e. e.1 ≢ []) subs → AreCellsOfSubs n subs
    → AreInTurn FitsRow after_row last rest → ((s : ℕ) → AreInTurn FitsRow after_row (n, s) rest) → AreInTurn FitsRow after_row last (map (row_of n) subs ++ rest)
rows_turn n last [] rest word after rise some cells here then = here
rows_turn n last (e ∷ es) rest word after rise some cells here then = (
  record { word = word; hash = length-sha256 _; range = place_of_row n e.0 e.1 some.0 cells.0; order = after.0 },
  rows_turn n (n, e.0) es rest word (all_weaker (λ d. e.0 < d.0) (After (n, e.0) n) es rise.0 (λ d lt. next_sub n e.0 d lt)) rise.1 some.1 cells.1 (then e.0) then,
)

pub all_true : {X : Type 0} (P : X → Type 0) → ((x : X) → P x) → (xs : List X) → AllByRecursion P xs
all_true P f [] = tt
all_true P f (x ∷ xs) = (f x, all_true P f xs)

numbers_turn : (last : ℕ × ℕ) (numbers : Cells) → AllByRecursion (λ e. last.0 < e.0) numbers → AllByRecursion (λ e. e.0 < word_limit) numbers → KeysRise numbers → AllByRecursion (λ e. SubsRise e.1) numbers → AreSomeRows numbers → AreCellsOfNumbers numbers
    → AreInTurn FitsRow after_row last (flat_map (λ e. map (row_of e.0) e.1) numbers)
numbers_turn last [] above words rise inner some cells = tt
numbers_turn last (e ∷ es) above words rise inner some cells = rows_turn e.0 last e.1 (flat_map (λ e. map (row_of e.0) e.1) es) words.0
    (all_true (After last e.0) (λ d. next_number last e.0 d above.0) e.1)
    inner.0.0 some.0 cells.0
    (numbers_turn last es above.1 words.1 rise.1 inner.1 some.1 cells.1)
    (λ s. numbers_turn (e.0, s) es rise.0 words.1 rise.1 inner.1 some.1 cells.1)

-- a number with a row is at least 1
number_some : (n : ℕ) (subs : Subs) → subs ≢ [] → AllByRecursion (λ e. e.1 ≢ []) subs → AreCellsOfSubs n subs → 0 < n
number_some n [] kept some cells = absurd (kept refl)
number_some n (e ∷ es) kept some cells = let h : nat_le 1 n ≡ true = first_so (nat_le 1 n) (nat_lt e.0 part_limit) (place_of_row n e.0 e.1 some.0 cells.0) in grind (arith, nat_tests)

no_more : (n : ℕ) → 0 + n < word_limit → n < word_limit
no_more n lt = omega (arith, lt)

-- the digest of a board is in order and within its limits, if four bytes hold its numbers and count its rows
pub digest_is : (b : BoardValue) → IsBoard b → AllByRecursion IsWordOpening (openings_of b) → AllByRecursion (λ e. e.0 < word_limit) (issues_of b) → AllByRecursion (λ e. e.0 < word_limit) (cells_in b) → length (rows_of b) < word_limit → IsDigest (digest_of b)
digest_is b is openings issues cells few = record {
  openings = record { count = no_more (length (openings_of b)) (openings_few 0 (openings_of b) (omega arith) opened); turn = opened };
  issue_rows = record { count = no_more (length (map issue_row_of (issues_of b))) (issue_rows_few 0 (map issue_row_of (issues_of b)) (omega arith) hashed); turn = hashed };
  rows = record { count = few; turn = numbers_turn (0, 0) (cells_in b) above cells (keys_rise (cells_in b) is.nested.1.sorted) (numbers_keys (cells_in b) is.nested.1) (some_rows b is) (board_cells b is) };
}
  where
    opened : AreInTurn FitsOpening after_opening 0 (openings_of b)
    opened = openings_turn 0 (openings_of b) (all_weaker IsOpening (λ o. 0 < o.number) (openings_of b) (openings_listed b is).within (λ o w. omega (arith, w.0))) (openings_listed b is).rise (openings_listed b is).within openings

    hashed : AreInTurn FitsIssueRow after_issue_row 0 (map issue_row_of (issues_of b))
    hashed = issue_rows_turn 0 (issues_of b) (all_weaker (λ e. 1 ≤ e.0) (λ e. 0 < e.0) (issues_of b) (issues_listed b is).within (λ e w. omega arith)) (issues_listed b is).rise (issues_listed b is).within issues

    above : AllByRecursion (λ e. 0 < e.0) (cells_in b)
    above = numbers_some (cells_in b) (all_weaker _ (λ e. e.1 ≢ []) (cells_in b) is.nested.1.kept (λ e k. k.1)) (some_rows b is) (board_cells b is)
      where
        numbers_some : (numbers : Cells) → AllByRecursion (λ e. e.1 ≢ []) numbers → AreSomeRows numbers → AreCellsOfNumbers numbers → AllByRecursion (λ e. 0 < e.0) numbers
        numbers_some [] kept some cells = tt
        numbers_some (e ∷ es) kept some cells = (number_some e.0 e.1 kept.0 some.0 cells.0, numbers_some es kept.1 some.1 cells.1)
