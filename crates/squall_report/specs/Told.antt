-- What reports tell: their facts, and what they issue.
use Rattle.std.specs.Prelude.{◌≡◌, ◌≢◌, ℕ, ◌==◌, Bool, true, ◌||◌, List, [], ◌∷◌, if◌then◌else◌}
use Rattle.std.specs.List.{Contains}
use Rattle.squall_join.specs.declared.flat.Flat.{Flat}
use Rattle.squall_join.specs.declared.flat.Flat.TheVariants.{Unknown, One, Clash}
use Rattle.squall_join.specs.Flats.{flat_join}
use Rattle.squall_report.specs.declared.report.ReportKind.{ReportKind}
use Rattle.squall_report.specs.declared.report.ReportKind.TheVariants.{Loaded, Done, Opened, Issued}
use Rattle.squall_report.specs.Issues.{PlanPair, is_same_pair}
use Rattle.squall_report.specs.Facts.{Fact, report_says, reports_say}

-- What is told (this project): facts, and under each number nothing issued, one pair of plans, or a clash
-- of different pairs.
pub record Told : Type 0 where
  pub says : Fact → Bool
  pub issues : ℕ → Flat PlanPair

-- what two answers issue together: different pairs clash
abbrev pub both_issued : Flat PlanPair → Flat PlanPair → Flat PlanPair
both_issued x y = flat_join is_same_pair x y

-- an issue issues its pair under its number, and no other report issues anything
abbrev pub report_issues : ReportKind PlanPair → ℕ → Flat PlanPair
report_issues (Loaded number sub part span) n = Unknown
report_issues (Done number sub part) n = Unknown
report_issues (Opened number sub) n = Unknown
report_issues (Issued number issue) n = if number == n then One issue else Unknown

-- what a list of reports issues under a number
abbrev pub reports_issue : List (ReportKind PlanPair) → ℕ → Flat PlanPair
reports_issue [] n = Unknown
reports_issue (r ∷ rs) n = both_issued (report_issues r n) (reports_issue rs n)

-- In plain words: nothing if no report issues under the number. One pair if a report issues it and no report another. A clash if
-- two reports issue different pairs.
abbrev pub IsIssued : List (ReportKind PlanPair) → ℕ → Flat PlanPair → Type 0
IsIssued rs n Unknown = (p : PlanPair) → Contains rs (Issued n p) → ⊥
IsIssued rs n (One p) = Contains rs (Issued n p) × ((q : PlanPair) → Contains rs (Issued n q) → q ≡ p)
IsIssued rs n Clash = (p : PlanPair) × (q : PlanPair) × Contains rs (Issued n p) × Contains rs (Issued n q) × (p ≢ q)

abbrev pub told_by_report : ReportKind PlanPair → Told
told_by_report r = record { says = report_says r; issues = report_issues r }

-- what a list of reports tells
abbrev pub told_by : List (ReportKind PlanPair) → Told
told_by rs = record { says = reports_say rs; issues = reports_issue rs }

-- both tell the same
pub record SameTold (a b : Told) : Type 0 where
  pub facts : (f : Fact) → a.says f ≡ b.says f
  pub issues : (n : ℕ) → a.issues n ≡ b.issues n

-- c tells what a tells and what b tells, and nothing else
pub record TellsBoth (c a b : Told) : Type 0 where
  pub facts : (f : Fact) → c.says f ≡ (a.says f || b.says f)
  pub issues : (n : ℕ) → c.issues n ≡ both_issued (a.issues n) (b.issues n)

-- a tells all that b tells: to join what b issues changes nothing of what a issues
pub record TellsAll (a b : Told) : Type 0 where
  pub facts : (f : Fact) → b.says f ≡ true → a.says f ≡ true
  pub issues : (n : ℕ) → both_issued (a.issues n) (b.issues n) ≡ a.issues n

-- each report of one list is in the other
abbrev pub AreSameReports : List (ReportKind PlanPair) → List (ReportKind PlanPair) → Type 0
AreSameReports rs qs = ((r : ReportKind PlanPair) → Contains rs r → Contains qs r) × ((r : ReportKind PlanPair) → Contains qs r → Contains rs r)
