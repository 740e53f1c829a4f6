-- How a status is made anew after news (this project).
use Rattle.std.specs.Prelude.{◌≡◌, Bool, ◌||◌, List}
use Rattle.squall_course.specs.Change.{Change}
use Rattle.squall_report.specs.Cells.{CellPlace}
use Rattle.squall_report.specs.Facts.{Fact}
use Rattle.squall_board.specs.MovesRoute.{has_come_to}
use Rattle.squall_span.specs.Spans.{Interval}
use Rattle.squall_status.specs.declared.progress.Progress.{Progress}
use Rattle.squall_status.specs.declared.progress.MoveStatus.{MoveStatus}
use Rattle.squall_status.specs.declared.subplan.SubplanStatus.{SubplanStatus}
use Rattle.squall_status.specs.Coming.{IsProgress}
use Rattle.squall_status.specs.Summary.{StatusValue, AreMoveStatuses, subplan_status, subplan_statuses, IsStatusOf}

-- what is said is what was said before, and the news
abbrev pub IsSaidWith : (Fact → Bool) → (Fact → Bool) → (Fact → Bool) → Type 0
IsSaidWith before news says = (f : Fact) → says f ≡ (before f || news f)

-- the status is that of the course before the news: by facts which, with the news, are all that is said
pub record IsStatusBefore (c : Change) (news says : Fact → Bool) (s : StatusValue) : Type 0 where
  pub before : Fact → Bool
  pub status : IsStatusOf c before s
  pub said : IsSaidWith before news says

-- the statuses are those of the course's moves before the news
pub record AreMovesBefore (c : Change) (news says : Fact → Bool) (ss : List MoveStatus) : Type 0 where
  pub before : Fact → Bool
  pub statuses : AreMoveStatuses c before ss
  pub said : IsSaidWith before news says

-- the statuses are those of the course's sub-plans before the news
pub record AreSubplansBefore (c : Change) (news says : Fact → Bool) (ss : List SubplanStatus) : Type 0 where
  pub before : Fact → Bool
  pub statuses : ss ≡ subplan_statuses c before
  pub said : IsSaidWith before news says

-- if the first progress is that of the span's keys at the cell before the news, the second is theirs after it
abbrev pub Renews : (Fact → Bool) → (Fact → Bool) → CellPlace → Interval → Progress → Progress → Type 0
Renews news says cell span old new = (before : Fact → Bool) → IsSaidWith before news says
    → IsProgress span (has_come_to before cell) old → IsProgress span (has_come_to says cell) new

-- if the first status is that of its sub-plan before the news, the second is that sub-plan's after it
abbrev pub RenewsSubplan : Change → (Fact → Bool) → (Fact → Bool) → SubplanStatus → SubplanStatus → Type 0
RenewsSubplan c news says old new = (before : Fact → Bool) → IsSaidWith before news says
    → old ≡ subplan_status c before old.sub → new ≡ subplan_status c says old.sub
