-- What a board holds, as lists in rising order (this project).
use Rattle.std.specs.Prelude.{◌≡◌, ◌≢◌, ℕ, ◌<◌, ◌≤◌, Bool, true, false, ◌||◌, ◌&&◌, map, List, [], ◌∷◌, Option, None, Some, if◌then◌else◌}
use Rattle.std.specs.List.{flat_map, list_any, AllByRecursion}
use Rattle.std.specs.Ordering.{is_lt}
use Rattle.squall_key.specs.Keys.{part_limit}
use Rattle.squall_span.specs.Spans.{Interval, IsSet}
use Rattle.squall_join.specs.declared.flat.Flat.{Flat}
use Rattle.squall_join.specs.declared.flat.Flat.TheVariants.{Unknown}
use Rattle.squall_join.specs.Pairs.{pair_of}
use Rattle.squall_report.specs.Issues.{PlanPair}
use Rattle.squall_report.specs.Cells.{CellPlace, place_at, is_cell_place, cell_cmp}
use Rattle.squall_report.specs.Facts.{Fact, LoadedKey, DonePart, OpenedSub}
use Rattle.squall_report.specs.Told.{Told, both_issued}
use Rattle.squall_board.specs.declared.opening.Opening.{Opening}
use Rattle.squall_board.specs.Boards.{CellValue, Parts, Subs, Cells, Openings, BoardValue, openings_in, issues_in, cells_in, says, issued, cell_says, count_says, one_issue}

-- ---- cells

-- what was reported of a partition in a sub-plan
pub record CellEntry : Type 0 where
  pub cell : CellPlace
  pub complete : Bool
  pub spans : List Interval

abbrev pub entry_with : CellPlace → Bool → List Interval → CellEntry
entry_with place complete spans = record { cell = place; complete = complete; spans = spans }

abbrev pub cell_entry : CellPlace → CellValue → CellEntry
cell_entry place cell = entry_with place cell.second cell.first

abbrev pub entry_value : CellEntry → CellValue
entry_value c = pair_of c.spans c.complete

abbrev pub has_spans : List Interval → Bool
has_spans [] = false
has_spans (s ∷ ss) = true

-- the place lies within its limits, and the cell says something
abbrev pub is_entry : CellEntry → Bool
is_entry c = is_cell_place c.cell && (c.complete || has_spans c.spans)

-- the cell, if a board may hold it
abbrev pub entry_of : ℕ → ℕ → ℕ → Bool → List Interval → Option CellEntry
entry_of n s p complete spans = if is_entry (entry_with (place_at n s p) complete spans) then Some (entry_with (place_at n s p) complete spans) else None

-- a cell: a board may hold it, and its spans are a set of keys
pub record IsCell (c : CellEntry) : Type 0 where
  pub entry : is_entry c ≡ true
  pub spans : IsSet c.spans

abbrev pub cells_of_parts : ℕ → ℕ → Parts → List CellEntry
cells_of_parts n s parts = map (λ e. cell_entry (place_at n s e.0) e.1) parts

abbrev pub cells_of_subs : ℕ → Subs → List CellEntry
cells_of_subs n subs = flat_map (λ e. cells_of_parts n e.0 e.1) subs

abbrev pub cells_of_numbers : Cells → List CellEntry
cells_of_numbers numbers = flat_map (λ e. cells_of_subs e.0 e.1) numbers

-- the cells of a board
abbrev pub cells_of : BoardValue → List CellEntry
cells_of b = cells_of_numbers (cells_in b)

-- each entry of the nested maps is a cell
abbrev pub AreCellsOfParts : ℕ → ℕ → Parts → Type 0
AreCellsOfParts n s parts = AllByRecursion (λ e. IsCell (cell_entry (place_at n s e.0) e.1)) parts

abbrev pub AreCellsOfSubs : ℕ → Subs → Type 0
AreCellsOfSubs n subs = AllByRecursion (λ e. AreCellsOfParts n e.0 e.1) subs

abbrev pub AreCellsOfNumbers : Cells → Type 0
AreCellsOfNumbers numbers = AllByRecursion (λ e. AreCellsOfSubs e.0 e.1) numbers

-- each row of the nested maps has a cell
abbrev pub AreSomeRows : Cells → Type 0
AreSomeRows numbers = AllByRecursion (λ e. AllByRecursion (λ d. d.1 ≢ []) e.1) numbers

abbrev pub entry_says : CellEntry → Fact → Bool
entry_says c f = cell_says c.cell (entry_value c) f

-- what some cell of the list says
abbrev pub entries_say : List CellEntry → Fact → Bool
entries_say cs f = list_any (λ c. entry_says c f) cs

-- in the order of cells: by number, then by sub-plan, then by partition
abbrev pub ComesBefore : CellEntry → CellEntry → Type 0
ComesBefore c d = is_lt (cell_cmp c.cell d.cell) ≡ true

abbrev pub CellsRise : List CellEntry → Type 0
CellsRise [] = Unit {0}
CellsRise (c ∷ cs) = AllByRecursion (ComesBefore c) cs × CellsRise cs

-- each is a cell, the cells rise, and they say of loads and completions what the board says
pub record AreCells (b : BoardValue) (cs : List CellEntry) : Type 0 where
  pub rise : CellsRise cs
  pub within : AllByRecursion IsCell cs
  pub loaded : (c : CellPlace) (k : ℕ) → says b (LoadedKey c k) ≡ entries_say cs (LoadedKey c k)
  pub done : (c : CellPlace) → says b (DonePart c) ≡ entries_say cs (DonePart c)

-- ---- openings

-- a count of opened sub-plans that a board may hold
abbrev pub IsOpening : Opening → Type 0
IsOpening o = (1 ≤ o.number) × (0 < o.count) × (o.count ≤ part_limit)

abbrev pub openings_of_counts : Openings → List Opening
openings_of_counts counts = map (λ e. record { number = e.0; count = e.1 }) counts

-- the counts of opened sub-plans of a board
abbrev pub openings_of : BoardValue → List Opening
openings_of b = openings_of_counts (openings_in b)

abbrev pub openings_say : List Opening → Fact → Bool
openings_say os f = list_any (λ o. count_says o.number o.count f) os

abbrev pub OpeningsRise : List Opening → Type 0
OpeningsRise [] = Unit {0}
OpeningsRise (o ∷ os) = AllByRecursion (λ q. o.number < q.number) os × OpeningsRise os

-- the numbers rise, each opening lies within its limits, and the counts say of openings what the board says
pub record AreOpenings (b : BoardValue) (os : List Opening) : Type 0 where
  pub rise : OpeningsRise os
  pub within : AllByRecursion IsOpening os
  pub opened : (n s : ℕ) → says b (OpenedSub n s) ≡ openings_say os (OpenedSub n s)

-- ---- issues

-- what is issued, by number
abbrev pub issues_of : BoardValue → List (ℕ × Flat PlanPair)
issues_of b = issues_in b

-- what the entries issue under a number
abbrev pub entries_issue : List (ℕ × Flat PlanPair) → ℕ → Flat PlanPair
entries_issue [] n = Unknown
entries_issue (e ∷ es) n = both_issued (one_issue e.0 e.1 n) (entries_issue es n)

abbrev pub IssuesRise : List (ℕ × Flat PlanPair) → Type 0
IssuesRise [] = Unit {0}
IssuesRise (e ∷ es) = AllByRecursion (λ d. e.0 < d.0) es × IssuesRise es

-- the numbers rise, from 1 on, each entry has one pair of plans or a clash, and the entries issue what the board issues
pub record AreIssues (b : BoardValue) (es : List (ℕ × Flat PlanPair)) : Type 0 where
  pub rise : IssuesRise es
  pub within : AllByRecursion (λ e. 1 ≤ e.0) es
  pub known : AllByRecursion (λ e. e.1 ≢ Unknown) es
  pub issued : (n : ℕ) → issued b n ≡ entries_issue es n

-- what openings, issues and cells tell together
abbrev pub told_by_lists : List Opening → List (ℕ × Flat PlanPair) → List CellEntry → Told
told_by_lists os es cs = record { says = λ f. openings_say os f || entries_say cs f; issues = entries_issue es }
