-- What reports say.
use Rattle.std.specs.Prelude.{ℕ, Bool, false, ◌&&◌, ◌==◌, nat_lt, nat_le, List, Option, None, Some, if◌then◌else◌}
use Rattle.std.specs.List.{list_any}
use Rattle.squall_key.specs.Keys.{top, part_limit}
use Rattle.squall_span.specs.Spans.{Interval, span_has}
use Rattle.squall_report.specs.declared.report.ReportKind.{ReportKind}
use Rattle.squall_report.specs.declared.report.ReportKind.TheVariants.{Loaded, Done, Opened, Issued}
use Rattle.squall_report.specs.Issues.{PlanPair}
use Rattle.squall_report.specs.Cells.{CellPlace, place_at, is_cell_place, is_same_cell}

-- A fact of a reconfiguration: a key was loaded at a partition in a sub-plan, a partition has all its keys of a sub-plan, or a
-- sub-plan is opened (Squall: partitions report when they have all their data, and the leader goes on; the sub-plans and numbers
-- are this project's).
pub data Fact : Type 0 where
  LoadedKey : (cell : CellPlace) (key : ℕ) → Fact
  DonePart : (cell : CellPlace) → Fact
  OpenedSub : (number sub : ℕ) → Fact

-- What one report says. A load says each key of its span loaded, and a completion says its partition done. An opening says each
-- sub-plan up to its own opened, and an issue says no fact.
abbrev pub report_says : ReportKind PlanPair → Fact → Bool
report_says (Loaded number sub part span) (LoadedKey c k) = is_same_cell (place_at number sub part) c && span_has span k
report_says (Loaded number sub part span) (DonePart c) = false
report_says (Loaded number sub part span) (OpenedSub n s) = false
report_says (Done number sub part) (LoadedKey c k) = false
report_says (Done number sub part) (DonePart c) = is_same_cell (place_at number sub part) c
report_says (Done number sub part) (OpenedSub n s) = false
report_says (Opened number sub) (LoadedKey c k) = false
report_says (Opened number sub) (DonePart c) = false
report_says (Opened number sub) (OpenedSub n s) = (number == n) && nat_le s sub
report_says (Issued number issue) (LoadedKey c k) = false
report_says (Issued number issue) (DonePart c) = false
report_says (Issued number issue) (OpenedSub n s) = false

-- what a list of reports says: what some report of it says
abbrev pub reports_say : List (ReportKind PlanPair) → Fact → Bool
reports_say reports fact = list_any (λ report. report_says report fact) reports

-- ---- limits: reconfigurations count from 1, sub-plans and partitions from 0 to 9999

-- the number of a reconfiguration and of a sub-plan lie within their limits
abbrev pub is_opening : ℕ → ℕ → Bool
is_opening number sub = nat_le 1 number && nat_lt sub part_limit

-- the span has a key, and ends by the top
abbrev pub is_key_span : Interval → Bool
is_key_span s = nat_lt s.lo s.hi && nat_le s.hi top

-- the numbers of the fact lie within their limits, and a loaded key is one
abbrev pub is_fact : Fact → Bool
is_fact (LoadedKey c k) = is_cell_place c && nat_lt k top
is_fact (DonePart c) = is_cell_place c
is_fact (OpenedSub n s) = is_opening n s

-- the numbers of the report lie within their limits, and a loaded span is one of keys
abbrev pub is_report : ReportKind PlanPair → Bool
is_report (Loaded number sub part span) = is_cell_place (place_at number sub part) && is_key_span span
is_report (Done number sub part) = is_cell_place (place_at number sub part)
is_report (Opened number sub) = is_opening number sub
is_report (Issued number issue) = nat_le 1 number

-- the report, if its numbers lie within their limits
abbrev pub report_of : ReportKind PlanPair → Option (ReportKind PlanPair)
report_of kind = if is_report kind then Some kind else None

abbrev pub loaded_of : ℕ → ℕ → ℕ → Interval → Option (ReportKind PlanPair)
loaded_of number sub part span = report_of (Loaded number sub part span)

abbrev pub done_of : ℕ → ℕ → ℕ → Option (ReportKind PlanPair)
done_of number sub part = report_of (Done number sub part)

abbrev pub opened_of : ℕ → ℕ → Option (ReportKind PlanPair)
opened_of number sub = report_of (Opened number sub)

abbrev pub issued_of : ℕ → PlanPair → Option (ReportKind PlanPair)
issued_of number issue = report_of (Issued number issue)

-- the same kind, with its issue in another form: a function gives that form
abbrev pub kind_with : {I J : Type 0} → (I → J) → ReportKind I → ReportKind J
kind_with f (Loaded number sub part span) = Loaded number sub part span
kind_with f (Done number sub part) = Done number sub part
kind_with f (Opened number sub) = Opened number sub
kind_with f (Issued number issue) = Issued number (f issue)
