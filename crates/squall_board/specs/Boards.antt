-- Boards as nested joins, and what they tell (join semilattices: Shapiro et al. 2011; the facts are this project's).
use Rattle.std.specs.Prelude.{◌≡◌, ℕ, ◌+◌, ◌≤◌, max, Bool, true, false, ◌||◌, ◌&&◌, ◌==◌, nat_lt, if◌then◌else◌, List, [], ◌∷◌, Option, None, Some, ◌⊎◌}
use Rattle.std.proofs.Common.{inl, inr}
use Rattle.std.specs.Ordering.{nat_cmp}
use Rattle.std.specs.FinMap.Entries.{find}
use Rattle.squall_span.specs.Spans.{Interval, has, IsSet, union}
use Rattle.squall_join.specs.declared.flat.Flat.{Flat}
use Rattle.squall_join.specs.declared.flat.Flat.TheVariants.{Unknown, One, Clash}
use Rattle.squall_join.specs.declared.pair.Pair.{Pair}
use Rattle.squall_join.specs.Basic.{is_max}
use Rattle.squall_join.specs.Pairs.{pair_of, pair_is, pair_join}
use Rattle.squall_join.specs.Entries.{merged, IsMap}
use Rattle.squall_join.specs.Looked.{looked}
use Rattle.squall_join.specs.Flats.{flat_is}
use Rattle.squall_join.specs.Facts.{max_says, flag_says, pair_says, map_says}
use Rattle.squall_report.specs.declared.report.ReportKind.{ReportKind}
use Rattle.squall_report.specs.declared.report.ReportKind.TheVariants.{Loaded, Done, Opened, Issued}
use Rattle.squall_report.specs.Issues.{PlanPair}
use Rattle.squall_report.specs.Cells.{CellPlace, place_at, is_same_cell}
use Rattle.squall_report.specs.Facts.{Fact, LoadedKey, DonePart, OpenedSub, is_fact}
use Rattle.squall_report.specs.Told.{Told, both_issued, told_by, SameTold}

-- ---- the value

-- the keys that were loaded, and whether the partition is done
abbrev pub CellValue : Type 0
CellValue = Pair (List Interval) Bool

-- by partition
abbrev pub Parts : Type 0
Parts = List (ℕ × CellValue)

-- by sub-plan
abbrev pub Subs : Type 0
Subs = List (ℕ × Parts)

-- by number
abbrev pub Cells : Type 0
Cells = List (ℕ × Subs)

-- how many sub-plans are opened, by number
abbrev pub Openings : Type 0
Openings = List (ℕ × ℕ)

-- what is issued, by number
abbrev pub Issues : Type 0
Issues = List (ℕ × Flat PlanPair)

abbrev pub BoardValue : Type 0
BoardValue = Pair (Pair Openings Issues) Cells

abbrev pub board_of : Openings → Issues → Cells → BoardValue
board_of openings issues cells = pair_of (pair_of openings issues) cells

-- its openings, its issues and its cells, each as a map
abbrev pub openings_in : BoardValue → Openings
openings_in b = b.first.first

abbrev pub issues_in : BoardValue → Issues
issues_in b = b.first.second

abbrev pub cells_in : BoardValue → Cells
cells_in b = b.second

-- ---- its join

abbrev pub cell_is : CellValue → Type 0
cell_is = pair_is IsSet (λ _. Unit {0})

abbrev pub cell_bottom : CellValue
cell_bottom = pair_of [] false

abbrev pub cell_join : CellValue → CellValue → CellValue
cell_join = pair_join union ◌||◌

abbrev pub issue_is : Flat PlanPair → Type 0
issue_is = flat_is (λ _. Unit {0})

-- the numbers, sub-plans and partitions rise, and each entry says something
abbrev pub is_nested : BoardValue → Type 0
is_nested = pair_is (pair_is (IsMap nat_cmp is_max 0) (IsMap nat_cmp issue_is Unknown)) (IsMap nat_cmp (IsMap nat_cmp (IsMap nat_cmp cell_is cell_bottom) []) [])

abbrev pub empty_board : BoardValue
empty_board = board_of [] [] []

-- at each number the greater count and the join of what both issue, and in each cell the keys of both, and done if either is
abbrev pub board_join : BoardValue → BoardValue → BoardValue
board_join = pair_join (pair_join (merged nat_cmp max) (merged nat_cmp both_issued)) (merged nat_cmp (merged nat_cmp (merged nat_cmp cell_join)))

-- ---- what it tells

-- how many sub-plans of the number are opened
abbrev pub opened_count : BoardValue → ℕ → ℕ
opened_count b n = looked 0 (find nat_cmp n (openings_in b))

-- what is issued under the number
abbrev pub issued : BoardValue → ℕ → Flat PlanPair
issued b n = looked Unknown (find nat_cmp n (issues_in b))

-- whether the board has the fact
abbrev pub says : BoardValue → Fact → Bool
says b (OpenedSub n s) = map_says nat_cmp max_says (openings_in b) (n, s)
says b (LoadedKey c k) = map_says nat_cmp (map_says nat_cmp (map_says nat_cmp (pair_says has flag_says))) (cells_in b) (c.number, (c.sub, (c.part, inl k)))
says b (DonePart c) = map_says nat_cmp (map_says nat_cmp (map_says nat_cmp (pair_says has flag_says))) (cells_in b) (c.number, (c.sub, (c.part, inr tt)))

-- what the board tells: its facts, and what is issued under each number
abbrev pub told : BoardValue → Told
told b = record { says = says b; issues = issued b }

-- a board: nested maps without empty parts, whose facts and issues lie within the limits of reports
pub record IsBoard (b : BoardValue) : Type 0 where
  pub nested : is_nested b
  pub facts : (f : Fact) → says b f ≡ true → is_fact f ≡ true
  pub issues : (n : ℕ) → (1 ≤ n) ⊎ (issued b n ≡ Unknown)

-- the board tells what the list of reports tells, and nothing else
abbrev pub HasTaken : BoardValue → List (ReportKind PlanPair) → Type 0
HasTaken b rs = SameTold (told b) (told_by rs)

-- ---- boards of one thing

-- what a cell says: its keys loaded, and its partition done if it is complete
abbrev pub cell_says : CellPlace → CellValue → Fact → Bool
cell_says place cell (LoadedKey c k) = is_same_cell place c && has cell.first k
cell_says place cell (DonePart c) = is_same_cell place c && cell.second
cell_says place cell (OpenedSub n s) = false

-- what a count of opened sub-plans says: those below it opened
abbrev pub count_says : ℕ → ℕ → Fact → Bool
count_says number count (LoadedKey c k) = false
count_says number count (DonePart c) = false
count_says number count (OpenedSub n s) = (number == n) && nat_lt s count

-- nothing under any number
abbrev pub no_issue : ℕ → Flat PlanPair
no_issue n = Unknown

-- what is issued under one number alone
abbrev pub one_issue : ℕ → Flat PlanPair → ℕ → Flat PlanPair
one_issue number issue n = if number == n then issue else Unknown

-- no fact
abbrev pub no_fact : Fact → Bool
no_fact f = false

-- what a cell, a count of opened sub-plans, and what is issued under a number tell
abbrev pub told_by_cell : CellPlace → CellValue → Told
told_by_cell place cell = record { says = cell_says place cell; issues = no_issue }

abbrev pub told_by_count : ℕ → ℕ → Told
told_by_count number count = record { says = count_says number count; issues = no_issue }

abbrev pub told_by_issue : ℕ → Flat PlanPair → Told
told_by_issue number issue = record { says = no_fact; issues = one_issue number issue }

-- of one cell
abbrev pub cell_board : CellPlace → CellValue → BoardValue
cell_board c cell = board_of [] [] ((c.number, (c.sub, (c.part, cell) ∷ []) ∷ []) ∷ [])

-- of one row: the cells of one number and sub-plan
abbrev pub row_board : ℕ → ℕ → Parts → BoardValue
row_board n s parts = board_of [] [] ((n, (s, parts) ∷ []) ∷ [])

-- of one count of opened sub-plans
abbrev pub opening_board : ℕ → ℕ → BoardValue
opening_board n count = board_of ((n, count) ∷ []) [] []

-- of what is issued under one number
abbrev pub issue_board : ℕ → Flat PlanPair → BoardValue
issue_board n Unknown = empty_board
issue_board n (One pair) = board_of [] ((n, One pair) ∷ []) []
issue_board n Clash = board_of [] ((n, Clash) ∷ []) []

-- of one report
abbrev pub report_board : ReportKind PlanPair → BoardValue
report_board (Loaded number sub part span) = cell_board (place_at number sub part) (pair_of (span ∷ []) false)
report_board (Done number sub part) = cell_board (place_at number sub part) (pair_of [] true)
report_board (Opened number sub) = opening_board number (sub + 1)
report_board (Issued number issue) = issue_board number (One issue)

-- ---- its cells

-- what a map has at a key, if there is a map
abbrev pub found_in : {V : Type 0} → ℕ → Option (List (ℕ × V)) → Option V
found_in q None = None
found_in q (Some es) = find nat_cmp q es

-- the cell at a place
abbrev pub cell_of : BoardValue → CellPlace → Option CellValue
cell_of b c = found_in c.part (found_in c.sub (find nat_cmp c.number (cells_in b)))
