-- A leader that is resumed in the midst of a course, and opens its sub-plans again (this project).
use Rattle.std.specs.Prelude.{◌≡◌, ◌⊎◌, ◌≤◌, true, Result, Some}
use Rattle.squall_report.specs.declared.report.ReportKind.{ReportKind}
use Rattle.squall_report.specs.Issues.{PlanPair}
use Rattle.squall_report.specs.Cells.{CellPlace}
use Rattle.squall_report.specs.Facts.{DonePart}
use Rattle.squall_board.specs.Boards.{says}
use Rattle.squall_leader.specs.declared.fault.LeaderFault.{LeaderFault}
use Rattle.squall_leader.specs.Leaders.{LeaderValue, IsLeader, IsOpened}
use Rattle.squall_protocol.specs.declared.event.Node.TheVariants.{Leader}
use Rattle.squall_protocol.specs.declared.event.Event.TheVariants.{OpenNext}
use Rattle.squall_protocol.specs.declared.answer.Answer.TheVariants.{Opened}
use Rattle.squall_protocol.specs.Worlds.{WorldValue, last_course}
use Rattle.squall_protocol.specs.Steps.{Step, last_count}

-- the value uses the course begun last, opened no more of its sub-plans than the world's leader, and heard of no completion of which that one
-- did not hear
pub record LagsBehind (w : WorldValue) (l : LeaderValue) : Type 0 where
  pub course : l.course ≡ Some (last_course w)
  pub opened : l.opened ≤ w.opened w.last
  pub most : w.opened w.last ≤ last_count w
  pub told : (c : CellPlace) → says l.board (DonePart c) ≡ true → (w.facts Leader).done c ≡ true

-- to open the next sub-plan is to open one that the world's leader has opened, or it is that one's step. It lags behind still, whatever is
-- answered
abbrev pub OpensAgain : Type 0
OpensAgain =
    (w : WorldValue) (l m : LeaderValue) (r : Result (ReportKind PlanPair) LeaderFault) → LagsBehind w l → IsLeader l → IsOpened l r m
    → (v : WorldValue) × ((v ≡ w) ⊎ Step w OpenNext (Opened l.opened) v) × LagsBehind v m
