-- What a report changes of a router of the C library (this project).
use Rattle.std.specs.Prelude.{◌≡◌, ◌≢◌, ℕ, ◌==◌, nat_le, Bool, true, false, List, Option, None, Some, Result, Ok, Err, if◌then◌else◌}
use Rattle.std.specs.Option.{option_and_then}
use Rattle.squall_key.specs.Keys.{top}
use Rattle.squall_span.specs.Spans.{span_at}
use Rattle.squall_plan.specs.declared.range.PlanRange.{PlanRange}
use Rattle.squall_plan.specs.declared.fault.PlanFault.{PlanFault}
use Rattle.squall_plan.specs.Form.{plan_of_text}
use Rattle.squall_report.specs.declared.report.ReportKind.{ReportKind}
use Rattle.squall_report.specs.Issues.{PlanPair, plan_pair}
use Rattle.squall_report.specs.Facts.{loaded_of, issued_of}
use Rattle.squall_board.specs.Boards.{board_join, report_board}
use Rattle.squall_c.specs.declared.router.RouterSlot.{RouterSlot}
use Rattle.squall_c.specs.declared.router.Station.{Station}
use Rattle.squall_c.specs.Status.{ok, no_memory, limit, closed, in_new_plan, plan_status, plan_place}
use Rattle.squall_c.specs.Opening.{with_station, with_board, Ends, IsDone}

-- the report of a load of the keys of those ranks, where there is one
abbrev pub loaded_report : ℕ → ℕ → ℕ → ℕ → ℕ → Option (ReportKind PlanPair)
loaded_report number sub part lo hi = if nat_le hi top then option_and_then (loaded_of number sub part) (span_at lo hi) else None

-- the station that has heard the report too: its board is the join of the old one and the report's
abbrev pub told_station : Station → ReportKind PlanPair → Station
told_station s report = with_board s (board_join s.router.board (report_board report))

-- it has heard the report, or there was not the memory for it and it is as it was
pub record TakesOne (report : ReportKind PlanPair) (old new : Station) (status : ℕ) : Type 0 where
  pub told : status ≢ no_memory → (status ≡ ok) × (new ≡ told_station old report)
  pub memory : status ≡ no_memory → new ≡ old

-- the station after a report, or none, was brought to it
abbrev pub TakesInStation : Option (ReportKind PlanPair) → Station → Station → ℕ → Type 0
TakesInStation None old new status = (status ≡ limit) × (new ≡ old)
TakesInStation (Some report) old new status = TakesOne report old new status

-- a slot after a report, or none, was brought to it
abbrev pub station_takes : RouterSlot → Option Station → Option (ReportKind PlanPair) → RouterSlot → ℕ → Type 0
station_takes old None report new status = (status ≡ closed) × (new ≡ old)
station_takes old (Some s) None new status = (status ≡ limit) × (new ≡ old)
station_takes old (Some s) (Some report) new status = Ends old (IsDone (with_station old (told_station s report))) new status

abbrev pub Takes : Option (ReportKind PlanPair) → RouterSlot → RouterSlot → ℕ → Type 0
Takes report old new status = station_takes old old.station report new status

-- ---- issues

-- the slot with the place of the last fault of a plan
abbrev pub with_fault_at : RouterSlot → ℕ → RouterSlot
with_fault_at slot place = record slot { fault_at = place }

-- the text has the fault, whose place the slot keeps
abbrev pub IsFaulty : RouterSlot → PlanFault → RouterSlot → ℕ → Type 0
IsFaulty old fault new status = (status ≡ plan_status in_new_plan fault) × (new ≡ with_fault_at old (plan_place fault))

-- a slot after a plan, or a text that is none, was issued to it: from the new plan of its first course to this one
abbrev pub station_issues : RouterSlot → Station → ℕ → Result (List PlanRange) PlanFault → RouterSlot → ℕ → Type 0
station_issues old s number (Ok plan) new status = station_takes old (Some s) (issued_of number (plan_pair s.router.first.new plan)) new status
station_issues old s number (Err fault) new status = Ends old (IsFaulty old fault) new status

-- the number 0 is no number of an issue, whatever the text is
abbrev pub issues_unless : Bool → RouterSlot → Station → ℕ → List ℕ → RouterSlot → ℕ → Type 0
issues_unless true old s number text new status = (status ≡ limit) × (new ≡ old)
issues_unless false old s number text new status = station_issues old s number (plan_of_text text) new status

abbrev pub station_issued : RouterSlot → Option Station → ℕ → List ℕ → RouterSlot → ℕ → Type 0
station_issued old None number text new status = (status ≡ closed) × (new ≡ old)
station_issued old (Some s) number text new status = issues_unless (number == 0) old s number text new status

abbrev pub Issues : ℕ → List ℕ → RouterSlot → RouterSlot → ℕ → Type 0
Issues number text old new status = station_issued old old.station number text new status
