-- What private functions find on the way to whom a leader waits for (this project). No public contract cites these definitions.
use Rattle.std.specs.Prelude.{◌≡◌, ℕ, ◌+◌, ◌<◌, not, Bool, true, false, Option, None, Some, Result, Ok, Err}
use Rattle.squall_course.specs.Change.{Change}
use Rattle.squall_course.specs.Subplans.{subplan_count}
use Rattle.squall_report.specs.declared.report.ReportKind.{ReportKind}
use Rattle.squall_report.specs.Issues.{PlanPair}
use Rattle.squall_report.specs.Cells.{place_at}
use Rattle.squall_report.specs.Facts.{DonePart}
use Rattle.squall_board.specs.Boards.{BoardValue, says}
use Rattle.squall_leader.specs.declared.fault.LeaderFault.{LeaderFault}
use Rattle.squall_leader.specs.Leaders.{LeaderValue, waited_for, waited_after, open_report, IsOpened}

-- the board does not say the partition done
abbrev pub awaits : BoardValue → ℕ → ℕ → ℕ → Bool
awaits b number sub part = not (says b (DonePart (place_at number sub part)))

-- the least number that passes the test, none if none does
abbrev pub IsLeast : (ℕ → Bool) → Option ℕ → Type 0
IsLeast test None = (q : ℕ) → test q ≡ false
IsLeast test (Some p) = (test p ≡ true) × ((q : ℕ) → q < p → test q ≡ false)

-- whom the leader waits for, with the sub-plan opened last
abbrev pub IsWaited : LeaderValue → Change → Option (ℕ × ℕ) → Type 0
IsWaited l c None = waited_after c l.board l.opened ≡ None
IsWaited l c (Some (sub, part)) = (l.opened ≡ sub + 1) × (waited_for c l.board sub ≡ Some part)

-- the report that opens the next sub-plan, or why there is none
abbrev pub IsOpening : LeaderValue → Result (ReportKind PlanPair) LeaderFault → Type 0
IsOpening l (Ok report) =
    (c : Change) × (l.course ≡ Some c) × (waited_after c l.board l.opened ≡ None) × (l.opened < subplan_count c.old c.new) × (report ≡ open_report c l.opened)
IsOpening l (Err fault) = IsOpened l (Err fault) l
