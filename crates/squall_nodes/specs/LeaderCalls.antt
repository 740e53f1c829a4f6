-- The calls of the leader as steps of a world, in which its value stands for the leader (this project).
use Rattle.std.specs.Prelude.{◌≡◌, ℕ, true, false, List, ◌++◌, length, Result, Ok, Err, Option, None, Some}
use Rattle.squall_plan.specs.declared.range.PlanRange.{PlanRange}
use Rattle.squall_plan.specs.Ranges.{names}
use Rattle.squall_course.specs.Change.{Change}
use Rattle.squall_report.specs.declared.report.ReportKind.{ReportKind}
use Rattle.squall_report.specs.declared.report.ReportKind.TheVariants.{Loaded as LoadedReport, Done as DoneReport, Opened as OpenedReport, Issued as IssuedReport}
use Rattle.squall_report.specs.Issues.{PlanPair}
use Rattle.squall_board.specs.Boards.{BoardValue, IsBoard, board_join}
use Rattle.squall_leader.specs.declared.fault.LeaderFault.{LeaderFault}
use Rattle.squall_leader.specs.declared.fault.LeaderFault.TheVariants.{Running as LeaderRunning, NoNumber as LeaderNoNumber, Idle as LeaderIdle, NotDone as LeaderNotDone, NoMore as LeaderNoMore, NoMemory as LeaderNoMemory}
use Rattle.squall_leader.specs.Leaders.{LeaderValue, IsLeader, IsOpened, IsBegun, IsBegunFrom}
use Rattle.squall_protocol.specs.declared.event.Node.TheVariants.{Leader}
use Rattle.squall_protocol.specs.declared.event.Event.TheVariants.{OpenNext, Begin, BeginFrom, Deliver}
use Rattle.squall_protocol.specs.declared.answer.Answer.{Answer}
use Rattle.squall_protocol.specs.declared.answer.Answer.TheVariants.{Opened, Begun, Delivered, Refused}
use Rattle.squall_protocol.specs.declared.answer.Refusal.{Refusal}
use Rattle.squall_protocol.specs.declared.answer.Refusal.TheVariants.{NotDone, NoMore, Running, NoNumber}
use Rattle.squall_protocol.specs.Worlds.{WorldValue, first_course}
use Rattle.squall_protocol.specs.Steps.{IsWhereLeft, new_parts}
use Rattle.squall_part.specs.Parts.{PartValue, new_part}
use Rattle.squall_router.specs.Routers.{RouterValue}
use Rattle.squall_nodes.specs.Standing.{StandsForPart, StandsForLeader, StandsForRouter, IsAbsent, LeaderStands, Becomes, refused}
use Rattle.squall_nodes.specs.PartCalls.{IsMessageOf}

-- ---- the next sub-plan

-- the sub-plan of a report that opens one, and of a load or a completion
abbrev pub opened_sub : ReportKind PlanPair → ℕ
opened_sub (LoadedReport number sub part span) = sub
opened_sub (DoneReport number sub part) = sub
opened_sub (OpenedReport number sub) = sub
opened_sub (IssuedReport number issue) = 0

-- why a leader opens nothing, as a refusal of the world. None if memory was missing, and of a leader that has begun no course
abbrev pub open_refusal : LeaderFault → Option Refusal
open_refusal LeaderRunning = None
open_refusal LeaderNoNumber = None
open_refusal LeaderIdle = None
open_refusal (LeaderNotDone sub part) = Some (NotDone sub part)
open_refusal LeaderNoMore = Some NoMore
open_refusal LeaderNoMemory = None

-- what the leader answered when it was to open a sub-plan, as an answer of the world
abbrev pub open_answer : Result (ReportKind PlanPair) LeaderFault → Option Answer
open_answer (Ok report) = Some (Opened (opened_sub report))
open_answer (Err f) = refused (open_refusal f)

-- to open the next sub-plan is the world's step
abbrev pub OpensByStep : Type 0
OpensByStep =
    (w : WorldValue) (l m : LeaderValue) (r : Result (ReportKind PlanPair) LeaderFault) → StandsForLeader w l → IsLeader l → IsOpened l r m
    → Becomes w OpenNext (open_answer r) (LeaderStands w m)

-- ---- what is heard

-- to absorb a board is the world's step that delivers it as a message
abbrev pub LeaderAbsorbsByStep : Type 0
LeaderAbsorbsByStep =
    (w : WorldValue) (i : ℕ) (l : LeaderValue) (said : BoardValue) → StandsForLeader w l → IsLeader l → IsBoard said → IsMessageOf w i said
    → Becomes w (Deliver i Leader) (Some Delivered) (LeaderStands w (record l { board = board_join l.board said }))

-- ---- the next course

-- The value stands for the leader, and other values for routers and partitions as before. A new partition, made with the first course,
-- stands for each that the plan names first. One that it does not name is absent still
pub record BegunStands (w : WorldValue) (plan : List PlanRange) (l : LeaderValue) (v : WorldValue) : Type 0 where
  pub itself : StandsForLeader v l
  pub parts : (q : ℕ) (a : PartValue) → StandsForPart w q a → StandsForPart v q a
  pub routers : (r : ℕ) (x : RouterValue) → StandsForRouter w r x → StandsForRouter v r x
  pub new : (q : ℕ) → IsAbsent w q → names plan q ≡ true → StandsForPart v q (new_part q (first_course w))
  pub absent : (q : ℕ) → IsAbsent w q → names plan q ≡ false → IsAbsent v q
  pub first : first_course v ≡ first_course w
  pub chunks : v.chunks ≡ w.chunks
  pub messages : v.messages ≡ w.messages

-- what the leader answered when it was to begin a course, as an answer of the world. None if memory was missing
abbrev pub begin_answer : WorldValue → List PlanRange → Result Change LeaderFault → Option Answer
begin_answer w plan (Ok c) = Some (Begun c.number (length (w.parts ++ new_parts w plan)))
begin_answer w plan (Err LeaderRunning) = Some (Refused Running)
begin_answer w plan (Err LeaderNoNumber) = Some (Refused NoNumber)
begin_answer w plan (Err LeaderIdle) = None
begin_answer w plan (Err (LeaderNotDone sub part)) = None
begin_answer w plan (Err LeaderNoMore) = None
begin_answer w plan (Err LeaderNoMemory) = None

-- what holds after it: partitions came if a course was begun, and otherwise nothing changed
abbrev pub AfterBegin : WorldValue → List PlanRange → Result Change LeaderFault → LeaderValue → WorldValue → Type 0
AfterBegin w plan (Ok c) m v = BegunStands w plan m v
AfterBegin w plan (Err f) m v = LeaderStands w m v

-- to begin a course is the world's step
abbrev pub BeginsByStep : Type 0
BeginsByStep =
    (w : WorldValue) (plan : List PlanRange) (l m : LeaderValue) (r : Result Change LeaderFault) → StandsForLeader w l → IsLeader l → IsLeader m → IsBegun l plan r m
    → Becomes w (Begin plan) (begin_answer w plan r) (AfterBegin w plan r m)

-- to begin a course from a plan is the world's step, if the plan has each key where the course begun last leaves it
abbrev pub BeginsFromByStep : Type 0
BeginsFromByStep =
    (w : WorldValue) (old new : List PlanRange) (l m : LeaderValue) (r : Result Change LeaderFault) → StandsForLeader w l → IsLeader l → IsLeader m → IsWhereLeft w old → IsBegunFrom l old new r m
    → Becomes w (BeginFrom old new) (begin_answer w new r) (AfterBegin w new r m)
