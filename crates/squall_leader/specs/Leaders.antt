-- The leader, which begins reconfigurations and opens their sub-plans. (That a leader starts a reconfiguration and continues once all
-- partitions have reported: Squall, SIGMOD 2015. Sub-plans and numbers are this project's.)
use Rattle.std.specs.Prelude.{◌≡◌, ℕ, ◌+◌, ◌<◌, ◌≤◌, zero, suc, not, List, Result, Ok, Err, Option, None, Some}
use Rattle.std.specs.List.{find}
use Rattle.squall_plan.specs.declared.range.PlanRange.{PlanRange}
use Rattle.squall_plan.specs.Ranges.{IsCanonical, AreRanges}
use Rattle.squall_course.specs.Change.{Change, ArePlans}
use Rattle.squall_course.specs.Subplans.{subplan_count}
use Rattle.squall_course.specs.Moves.{moves_of, receivers_of}
use Rattle.squall_report.specs.declared.report.ReportKind.{ReportKind}
use Rattle.squall_report.specs.declared.report.ReportKind.TheVariants.{Opened, Issued}
use Rattle.squall_report.specs.Issues.{PlanPair, plan_pair}
use Rattle.squall_report.specs.Cells.{place_at}
use Rattle.squall_report.specs.Facts.{DonePart}
use Rattle.squall_board.specs.Boards.{BoardValue, IsBoard, empty_board, board_join, report_board, says}
use Rattle.squall_protocol.specs.Known.{last_number}
use Rattle.squall_leader.specs.declared.fault.LeaderFault.{LeaderFault}
use Rattle.squall_leader.specs.declared.fault.LeaderFault.TheVariants.{Running, NoNumber, Idle, NotDone, NoMore, NoMemory}

-- A leader: the newest plan, the last number used, the course begun last, if any, and the count of sub-plans that it has opened since.
-- Its board has what it has heard and reported.
pub record LeaderValue : Type 0 where
  pub plan : List PlanRange
  pub last : ℕ
  pub course : Option Change
  pub opened : ℕ
  pub board : BoardValue

-- a leader that has begun nothing, if numbers up to the last were used
abbrev pub new_leader : List PlanRange → ℕ → LeaderValue
new_leader plan last = record { plan = plan; last = last; course = None; opened = 0; board = empty_board }

-- the least partition to which keys go in the sub-plan, and which the board does not say done
abbrev pub waited_for : Change → BoardValue → ℕ → Option ℕ
waited_for c b sub = find (λ part. not (says b (DonePart (place_at c.number sub part)))) (receivers_of (moves_of c.old c.new) sub)

-- whom the leader waits for before it opens or begins anything: that partition of the sub-plan opened last, none if none is opened
abbrev pub waited_after : Change → BoardValue → ℕ → Option ℕ
waited_after c b zero = None
waited_after c b (suc sub) = waited_for c b sub

-- all sub-plans of the course are opened, and all partitions that receive keys in the last one are done
abbrev pub IsOver : LeaderValue → Change → Type 0
IsOver l c = (l.opened ≡ subplan_count c.old c.new) × (waited_after c l.board l.opened ≡ None)

-- a course is begun, and it is over
abbrev pub IsFinished : LeaderValue → Type 0
IsFinished l = (c : Change) × (l.course ≡ Some c) × IsOver l c

-- a course is begun, and it is not over
abbrev pub IsRunning : LeaderValue → Type 0
IsRunning l = (c : Change) × (l.course ≡ Some c) × (IsOver l c → ⊥)

-- the course that leads from the newest plan to another, under the next number
abbrev pub next_course : LeaderValue → List PlanRange → Change
next_course l plan = record { number = l.last + 1; old = l.plan; new = plan }

abbrev pub issue_report : Change → ReportKind PlanPair
issue_report c = Issued c.number (plan_pair c.old c.new)

-- the leader after it began the course
abbrev pub after_begin : LeaderValue → Change → LeaderValue
after_begin l c = record { plan = c.new; last = c.number; course = Some c; opened = 0; board = board_join l.board (report_board (issue_report c)) }

-- the answer to the call that begins a course to the plan; memory is missing only if nothing else is in the way
abbrev pub IsBegun : LeaderValue → List PlanRange → Result Change LeaderFault → LeaderValue → Type 0
IsBegun l plan (Ok c) m = (IsRunning l → ⊥) × (l.last < last_number) × (c ≡ next_course l plan) × (m ≡ after_begin l c)
IsBegun l plan (Err Running) m = IsRunning l × (m ≡ l)
IsBegun l plan (Err NoNumber) m = (IsRunning l → ⊥) × (l.last ≡ last_number) × (m ≡ l)
IsBegun l plan (Err Idle) m = ⊥
IsBegun l plan (Err (NotDone sub part)) m = ⊥
IsBegun l plan (Err NoMore) m = ⊥
IsBegun l plan (Err NoMemory) m = (IsRunning l → ⊥) × (l.last < last_number) × (m ≡ l)

-- the course that leads from one plan to another, under the next number
abbrev pub course_from : LeaderValue → List PlanRange → List PlanRange → Change
course_from l old new = record { number = l.last + 1; old = old; new = new }

-- the answer to the call that begins a course from one plan to another, whether or not the course before is over; memory is missing only if
-- nothing else is in the way
abbrev pub IsBegunFrom : LeaderValue → List PlanRange → List PlanRange → Result Change LeaderFault → LeaderValue → Type 0
IsBegunFrom l old new (Ok c) m = (l.last < last_number) × (c ≡ course_from l old new) × (m ≡ after_begin l c)
IsBegunFrom l old new (Err Running) m = ⊥
IsBegunFrom l old new (Err NoNumber) m = (l.last ≡ last_number) × (m ≡ l)
IsBegunFrom l old new (Err Idle) m = ⊥
IsBegunFrom l old new (Err (NotDone sub part)) m = ⊥
IsBegunFrom l old new (Err NoMore) m = ⊥
IsBegunFrom l old new (Err NoMemory) m = (l.last < last_number) × (m ≡ l)

abbrev pub open_report : Change → ℕ → ReportKind PlanPair
open_report c sub = Opened c.number sub

-- the leader after it opened the next sub-plan of the course
abbrev pub after_open : LeaderValue → Change → LeaderValue
after_open l c = record l { opened = l.opened + 1; board = board_join l.board (report_board (open_report c l.opened)) }

-- the answer to the call that opens the next sub-plan; memory is missing only if nothing else is in the way
abbrev pub IsOpened : LeaderValue → Result (ReportKind PlanPair) LeaderFault → LeaderValue → Type 0
IsOpened l (Ok report) m =
    (c : Change) × (l.course ≡ Some c) × (waited_after c l.board l.opened ≡ None) × (l.opened < subplan_count c.old c.new)
    × (report ≡ open_report c l.opened) × (m ≡ after_open l c)
IsOpened l (Err Running) m = ⊥
IsOpened l (Err NoNumber) m = ⊥
IsOpened l (Err Idle) m = (l.course ≡ None) × (m ≡ l)
IsOpened l (Err (NotDone sub part)) m = (c : Change) × (l.course ≡ Some c) × (l.opened ≡ sub + 1) × (waited_for c l.board sub ≡ Some part) × (m ≡ l)
IsOpened l (Err NoMore) m = (c : Change) × (l.course ≡ Some c) × (waited_after c l.board l.opened ≡ None) × (l.opened ≡ subplan_count c.old c.new) × (m ≡ l)
IsOpened l (Err NoMemory) m = (c : Change) × (l.course ≡ Some c) × (waited_after c l.board l.opened ≡ None) × (l.opened < subplan_count c.old c.new) × (m ≡ l)

-- What holds of every leader. Its board is a board, and its newest plan is a plan. The course begun last leads to it under the last
-- number, which is at least 1. Both plans of that course are plans, and no more sub-plans are opened than there are.
pub record IsLeader (l : LeaderValue) : Type 0 where
  pub board : IsBoard l.board
  pub canonical : IsCanonical l.plan
  pub ranges : AreRanges l.plan
  pub course : (c : Change) → l.course ≡ Some c → (c.new ≡ l.plan) × (c.number ≡ l.last)
  pub numbered : (c : Change) → l.course ≡ Some c → 1 ≤ c.number
  pub plans : (c : Change) → l.course ≡ Some c → ArePlans c.old c.new
  pub opened : (c : Change) → l.course ≡ Some c → l.opened ≤ subplan_count c.old c.new
