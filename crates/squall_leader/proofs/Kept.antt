-- What holds of every leader holds after each call.
use Rattle.std.proofs.Common.{◌≡◌, ◌+◌, ◌<◌, Some, Ok, subst, sym, ◌∙◌, arith}
use Rattle.std.proofs.lemmas.Option.{same_Some}
use Rattle.squall_course.specs.Change.{Change}
use Rattle.squall_course.specs.Subplans.{subplan_count}
use Rattle.squall_report.specs.declared.report.ReportKind.{ReportKind}
use Rattle.squall_report.specs.Issues.{PlanPair}
use Rattle.squall_board.specs.Boards.{BoardValue, IsBoard}
use Rattle.squall_leader.specs.Leaders.{LeaderValue, IsLeader}
use Rattle.squall_leader.specs.Waiting.{IsOpening}

-- with another board
pub with_board : (l : LeaderValue) (b : BoardValue) → IsLeader l → IsBoard b → IsLeader (record l { board = b })
with_board l b is board = record { board = board; canonical = is.canonical; ranges = is.ranges; course = is.course; numbered = is.numbered; plans = is.plans; opened = is.opened }

-- where a sub-plan more is opened
one_opened : (l : LeaderValue) (c : Change) (b : BoardValue) → IsLeader l → IsBoard b → l.course ≡ Some c → l.opened < subplan_count c.old c.new → IsLeader (record l { opened = l.opened + 1; board = b })
one_opened l c b is board begun below = record {
  board = board;
  canonical = is.canonical;
  ranges = is.ranges;
  course = is.course;
  numbered = is.numbered;
  plans = is.plans;
  opened = λ d same. let one : d ≡ c = same_Some d c (sym same ∙ begun) in rw one (omega (arith, below));
}

pub opened_by : (l v : LeaderValue) (report : ReportKind PlanPair) (b : BoardValue) → v ≡ l → IsOpening l (Ok report) → IsLeader v → IsBoard b → IsLeader (record v { opened = v.opened + 1; board = b })
opened_by l v report b same opening is board =
    let o : IsOpening v (Ok report) = subst (λ w. IsOpening w (Ok report)) (sym same) opening in
    one_opened v o.0 b is board o.1 o.3
