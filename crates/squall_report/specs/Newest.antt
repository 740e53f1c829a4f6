-- The newest course of what is issued (this project: a later reconfiguration is issued under a greater number).
use Rattle.std.specs.Prelude.{◌≡◌, ◌≢◌, ℕ, ◌<◌, nat_lt, List, [], ◌∷◌, Option, None, Some, if◌then◌else◌}
use Rattle.squall_join.specs.declared.flat.Flat.{Flat}
use Rattle.squall_join.specs.declared.flat.Flat.TheVariants.{Unknown, One, Clash}
use Rattle.squall_report.specs.declared.report.ReportKind.{ReportKind}
use Rattle.squall_report.specs.declared.report.ReportKind.TheVariants.{Loaded, Done, Opened, Issued}
use Rattle.squall_report.specs.Issues.{PlanPair}
use Rattle.squall_report.specs.Told.{reports_issue}

-- the greatest number above the first one under which one pair of plans is issued, with that pair; none if there is no such
-- number
abbrev pub IsNewest : (ℕ → Flat PlanPair) → ℕ → Option (ℕ × PlanPair) → Type 0
IsNewest issues low None = (n : ℕ) → low < n → (p : PlanPair) → issues n ≢ One p
IsNewest issues low (Some e) = (low < e.0) × (issues e.0 ≡ One e.1) × ((n : ℕ) → e.0 < n → (p : PlanPair) → issues n ≢ One p)

-- the number and what is issued under it, if that is one pair of plans and the number is above the first one
abbrev pub one_above : ℕ → ℕ × Flat PlanPair → Option (ℕ × PlanPair)
one_above low (n, Unknown) = None
one_above low (n, One p) = if nat_lt low n then Some (n, p) else None
one_above low (n, Clash) = None

-- the one of the greater number
abbrev pub later : Option (ℕ × PlanPair) → Option (ℕ × PlanPair) → Option (ℕ × PlanPair)
later None y = y
later (Some x) None = Some x
later (Some x) (Some y) = if nat_lt x.0 y.0 then Some y else Some x

-- what the list issues under the report's number, if the report is an issue
abbrev pub course_under : List (ReportKind PlanPair) → ℕ → ReportKind PlanPair → Option (ℕ × PlanPair)
course_under rs low (Loaded number sub part span) = None
course_under rs low (Done number sub part) = None
course_under rs low (Opened number sub) = None
course_under rs low (Issued number issue) = one_above low (number, reports_issue rs number)

-- the latest of those under the numbers of some reports
abbrev pub latest_under : List (ReportKind PlanPair) → ℕ → List (ReportKind PlanPair) → Option (ℕ × PlanPair)
latest_under rs low [] = None
latest_under rs low (q ∷ qs) = later (course_under rs low q) (latest_under rs low qs)

-- the newest course of a list of reports: the greatest number above the first one under which the list issues one
-- pair of plans, with that pair
abbrev pub newest_by : List (ReportKind PlanPair) → ℕ → Option (ℕ × PlanPair)
newest_by rs low = latest_under rs low rs
