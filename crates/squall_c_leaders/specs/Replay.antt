-- The log of a leader: what the calls that change it lead to (this project).
use Rattle.std.specs.Prelude.{◌≡◌, Bool, true, false, List, [], ◌∷◌, Ok, Err}
use Rattle.squall_plan.specs.declared.range.PlanRange.{PlanRange}
use Rattle.squall_course.specs.Change.{Change}
use Rattle.squall_report.specs.declared.report.ReportKind.{ReportKind}
use Rattle.squall_report.specs.Issues.{PlanPair}
use Rattle.squall_board.specs.Boards.{BoardValue, board_join}
use Rattle.squall_leader.specs.declared.fault.LeaderFault.{LeaderFault}
use Rattle.squall_leader.specs.Leaders.{LeaderValue, IsBegun, IsBegunFrom, IsOpened}

-- a call that may change a leader: it absorbs a delta, begins a course to a plan, or from one plan to another, or opens the next sub-plan
pub data LeaderCall : Type 0 where
  Absorbs : BoardValue → LeaderCall
  Begins : List PlanRange → LeaderCall
  BeginsFrom : List PlanRange → List PlanRange → LeaderCall
  OpensNext : LeaderCall

-- a call, and whether it was done
abbrev pub Try : Type 0
Try = LeaderCall × Bool

-- the call was done, and led from one leader to another
abbrev pub IsDone : LeaderValue → LeaderCall → LeaderValue → Type 0
IsDone l (Absorbs delta) m = m ≡ record l { board = board_join l.board delta }
IsDone l (Begins plan) m = (c : Change) × IsBegun l plan (Ok c) m
IsDone l (BeginsFrom old new) m = (c : Change) × IsBegunFrom l old new (Ok c) m
IsDone l OpensNext m = (report : ReportKind PlanPair) × IsOpened l (Ok report) m

-- the call failed, and left the leader as it says; a delta is not absorbed only if there is no memory for it
abbrev pub IsFailed : LeaderValue → LeaderCall → LeaderValue → Type 0
IsFailed l (Absorbs delta) m = m ≡ l
IsFailed l (Begins plan) m = (fault : LeaderFault) × IsBegun l plan (Err fault) m
IsFailed l (BeginsFrom old new) m = (fault : LeaderFault) × IsBegunFrom l old new (Err fault) m
IsFailed l OpensNext m = (fault : LeaderFault) × IsOpened l (Err fault) m

-- the calls, each of which was done, led from one leader to another
abbrev pub Replays : LeaderValue → List LeaderCall → LeaderValue → Type 0
Replays l [] m = m ≡ l
Replays l (call ∷ calls) m = (next : LeaderValue) × IsDone l call next × Replays next calls m

-- the call was done or failed
abbrev pub IsTried : LeaderValue → Try → LeaderValue → Type 0
IsTried l (call, true) m = IsDone l call m
IsTried l (call, false) m = IsFailed l call m

-- the calls, each done or failed, led from one leader to another
abbrev pub Ran : LeaderValue → List Try → LeaderValue → Type 0
Ran l [] m = m ≡ l
Ran l (one ∷ tries) m = (next : LeaderValue) × IsTried l one next × Ran next tries m

-- the calls that were done
abbrev pub log_of : List Try → List LeaderCall
log_of [] = []
log_of ((call, true) ∷ tries) = call ∷ log_of tries
log_of ((call, false) ∷ tries) = log_of tries
