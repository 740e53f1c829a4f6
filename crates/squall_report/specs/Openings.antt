-- How many sub-plans reports open (this project).
use Rattle.std.specs.Prelude.{ℕ, ◌+◌, ◌==◌, max, List, [], ◌∷◌, if◌then◌else◌}
use Rattle.squall_report.specs.declared.report.ReportKind.{ReportKind}
use Rattle.squall_report.specs.declared.report.ReportKind.TheVariants.{Loaded, Done, Opened, Issued}
use Rattle.squall_report.specs.Issues.{PlanPair}

-- an opening opens its sub-plan and all those before it, and no other report opens any
abbrev pub opened_by_report : ReportKind PlanPair → ℕ → ℕ
opened_by_report (Loaded number sub part span) n = 0
opened_by_report (Done number sub part) n = 0
opened_by_report (Opened number sub) n = if number == n then sub + 1 else 0
opened_by_report (Issued number issue) n = 0

-- how many sub-plans of the number a list of reports opens: the greatest opened sub-plan plus 1, and 0 if none is opened
abbrev pub opened_by : List (ReportKind PlanPair) → ℕ → ℕ
opened_by [] n = 0
opened_by (r ∷ rs) n = max (opened_by_report r n) (opened_by rs n)
