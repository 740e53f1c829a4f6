-- Leaders of the C library: how they are opened, and how their calls end (this project).
use Rattle.std.specs.Prelude.{◌≡◌, ◌≢◌, ℕ, List, [], ◌∷◌, length, take, Option, None, Some, Result, Ok, Err, ◌⊎◌}
use Rattle.squall_plan.specs.declared.range.PlanRange.{PlanRange}
use Rattle.squall_plan.specs.declared.fault.PlanFault.{PlanFault}
use Rattle.squall_plan.specs.Form.{plan_of_text}
use Rattle.squall_course.specs.Change.{Change}
use Rattle.squall_leader.specs.declared.fault.LeaderFault.{LeaderFault}
use Rattle.squall_leader.specs.declared.fault.LeaderFault.TheVariants.{Running, NoNumber, Idle, NotDone, NoMore, NoMemory}
use Rattle.squall_leader.specs.Leaders.{new_leader, IsFinished}
use Rattle.squall_c_values.specs.Rooms.{over}
use Rattle.squall_c_frames.specs.declared.fault.FrameFault.{FrameFault}
use Rattle.squall_c_frames.specs.declared.fault.FrameFault.TheVariants.{TooLong, NoMemory as NoMemoryForFrames}
use Rattle.squall_c_leaders.specs.declared.fault.RepairFault.{RepairFault}
use Rattle.squall_c_leaders.specs.declared.fault.RepairFault.TheVariants.{NoDigest, TooLong as TooLongForRepair, NoMemory as NoMemoryForRepair}
use Rattle.squall_c_leaders.specs.Nodes.{NodeValue, new_node, begun_leader, Begins, BeginsFrom, Opens, HearsFrame, KeepsBoard, KeepsDigest, KeepsRepair, node_after}
use Rattle.squall_c_leaders.specs.Feeding.{Feeds}
use Rattle.squall_c.specs.declared.status.Cause.{Cause}
use Rattle.squall_c.specs.declared.courses.HeldCourse.{HeldCourse}
use Rattle.squall_c.specs.declared.courses.CourseSlot.{CourseSlot}
use Rattle.squall_c.specs.declared.leaders.LeaderSlot.{LeaderSlot}
use Rattle.squall_c.specs.Status.{ok, no_memory, closed, too_long, no_digest, no_place, in_new_plan, cause_with, cause_of_fault, plan_or_cause}
use Rattle.squall_c_frames.specs.FrameStatus.{hear_status, feed_status}
use Rattle.squall_c.specs.Courses.{IsSlotWith, IsCourseSlot, course_seen}

-- ---- opening

-- no leader, for that reason
abbrev pub no_leader : Cause → LeaderSlot
no_leader cause = record { status = cause.status; fault_at = cause.at; node = None }

-- the leader
abbrev pub leader_slot : NodeValue → LeaderSlot
leader_slot n = record { status = ok; fault_at = no_place; node = Some n }

-- the leader, or why there is none
abbrev pub slot_of_leader : Result NodeValue Cause → LeaderSlot
slot_of_leader (Ok n) = leader_slot n
slot_of_leader (Err cause) = no_leader cause

-- the slot that is wanted, unless an allocation failed, and then there is no leader
abbrev pub IsLeaderSlot : LeaderSlot → LeaderSlot → Type 0
IsLeaderSlot want slot = (slot ≡ want) ⊎ (slot ≡ no_leader (cause_with no_memory))

-- the leader of a plan after a number, or the fault of the text that is none
abbrev pub leader_of_plan : Result (List PlanRange) PlanFault → ℕ → LeaderSlot
leader_of_plan (Ok plan) last = leader_slot (new_node (new_leader plan last))
leader_of_plan (Err fault) last = no_leader (cause_of_fault 0 fault)

-- the slot that is opened
abbrev pub IsLeaderOpened : List ℕ → ℕ → LeaderSlot → Type 0
IsLeaderOpened text last slot = IsLeaderSlot (leader_of_plan (plan_of_text text) last) slot

-- the slot of a leader in the midst of the course
abbrev pub IsLeaderResumed : Change → LeaderSlot → Type 0
IsLeaderResumed c slot = IsLeaderSlot (leader_slot (new_node (begun_leader c))) slot

-- the same if there is a course
abbrev pub IsLeaderResumedOf : Option HeldCourse → LeaderSlot → Type 0
IsLeaderResumedOf None slot = slot ≡ no_leader (cause_with closed)
IsLeaderResumedOf (Some held) slot = IsLeaderResumed held.course slot

-- ---- what it tells

-- 1 if the course begun last is over, and 0 if not
abbrev pub TellsFinished : Option NodeValue → ℕ → Type 0
TellsFinished None answer = answer ≡ 0
TellsFinished (Some n) answer = ((answer ≡ 1) × IsFinished n.leader) ⊎ ((answer ≡ 0) × (IsFinished n.leader → ⊥))

-- the course that it began last
abbrev pub course_begun : Option NodeValue → Option Change
course_begun None = None
course_begun (Some n) = n.leader.course

-- the slot of that course
abbrev pub IsCourseBegun : Option Change → CourseSlot → Type 0
IsCourseBegun None slot = IsSlotWith (Err (cause_with closed)) slot
IsCourseBegun (Some c) slot = IsCourseSlot (course_seen c) slot

-- ---- how calls end

-- the number of why a leader does not go on
abbrev pub leader_number : LeaderFault → ℕ
leader_number Running = 91
leader_number NoNumber = 92
leader_number Idle = 93
leader_number (NotDone sub part) = 94
leader_number NoMore = 95
leader_number NoMemory = no_memory

-- the number of an answer
abbrev pub begin_number : Result (Unit {0}) LeaderFault → ℕ
begin_number (Ok done) = ok
begin_number (Err fault) = leader_number fault

abbrev pub open_number : Result ℕ LeaderFault → ℕ
open_number (Ok sub) = ok
open_number (Err fault) = leader_number fault

abbrev pub frame_number : Result (Unit {0}) FrameFault → ℕ
frame_number (Ok done) = ok
frame_number (Err TooLong) = too_long
frame_number (Err NoMemoryForFrames) = no_memory

abbrev pub repair_number : Result (Unit {0}) RepairFault → ℕ
repair_number (Ok done) = ok
repair_number (Err NoDigest) = no_digest
repair_number (Err TooLongForRepair) = too_long
repair_number (Err NoMemoryForRepair) = no_memory

-- the slot with another node
abbrev pub with_node : LeaderSlot → NodeValue → LeaderSlot
with_node slot n = record slot { node = Some n }

-- the node has answered, and the status is the number of the answer
pub record Answers {X E : Type 0} (number : Result X E → ℕ) (Acts : NodeValue → Result X E → NodeValue → Type 0) (old : LeaderSlot) (n : NodeValue) (new : LeaderSlot) (status : ℕ) : Type 0 where
  pub answer : Result X E
  pub node : NodeValue
  pub acts : Acts n answer node
  pub told : status ≡ number answer
  pub after : new ≡ with_node old node

-- the same if there is a leader
abbrev pub AnswersIn : {X E : Type 0} → (Result X E → ℕ) → (NodeValue → Result X E → NodeValue → Type 0) → LeaderSlot → Option NodeValue → LeaderSlot → ℕ → Type 0
AnswersIn number Acts old None new status = (status ≡ closed) × (new ≡ old)
AnswersIn number Acts old (Some n) new status = Answers number Acts old n new status

-- a slot after one whole frame came to it
abbrev pub LeaderHears : List ℕ → LeaderSlot → LeaderSlot → ℕ → Type 0
LeaderHears frame old new status = AnswersIn hear_status (HearsFrame frame) old old.node new status

-- a slot after a piece of a stream of frames was fed to it
abbrev pub LeaderFeeds : List ℕ → LeaderSlot → LeaderSlot → ℕ → Type 0
LeaderFeeds piece old new status = AnswersIn feed_status (Feeds piece) old old.node new status

-- how many bytes of that stream wait for the rest of their frame, 0 if there is no leader
abbrev pub leader_waiting_bytes : Option NodeValue → ℕ
leader_waiting_bytes None = 0
leader_waiting_bytes (Some n) = length n.feed.waiting

-- a slot after a course was to be begun so between the plans; or a text is none, and the slot keeps where the fault lies
abbrev pub begins_so : {X : Type 0} → (X → NodeValue → Result (Unit {0}) LeaderFault → NodeValue → Type 0) → LeaderSlot → NodeValue → Result X Cause → LeaderSlot → ℕ → Type 0
begins_so Acts old n (Ok plans) new status = Answers begin_number (Acts plans) old n new status
begins_so Acts old n (Err cause) new status = (status ≡ cause.status) × (new ≡ record old { fault_at = cause.at })

-- the same, or an allocation failed and nothing changed
pub record BeginsIn {X : Type 0} (Acts : X → NodeValue → Result (Unit {0}) LeaderFault → NodeValue → Type 0) (old : LeaderSlot) (n : NodeValue) (plans : Result X Cause) (new : LeaderSlot) (status : ℕ) : Type 0 where
  pub begins : status ≢ no_memory → begins_so Acts old n plans new status
  pub memory : status ≡ no_memory → new ≡ old

-- the same if there is a leader
abbrev pub leader_begins : {X : Type 0} → (X → NodeValue → Result (Unit {0}) LeaderFault → NodeValue → Type 0) → LeaderSlot → Option NodeValue → Result X Cause → LeaderSlot → ℕ → Type 0
leader_begins Acts old None plans new status = (status ≡ closed) × (new ≡ old)
leader_begins Acts old (Some n) plans new status = BeginsIn Acts old n plans new status

-- a slot after a course was to be begun to the plan of the text
abbrev pub LeaderBegins : List ℕ → LeaderSlot → LeaderSlot → ℕ → Type 0
LeaderBegins text old new status = leader_begins Begins old old.node (plan_or_cause in_new_plan (plan_of_text text)) new status

-- an old and a new plan, or the fault of the first that has one
abbrev pub both_plans : Result (List PlanRange) PlanFault → Result (List PlanRange) PlanFault → Result (List PlanRange × List PlanRange) Cause
both_plans (Err fault) new = Err (cause_of_fault 0 fault)
both_plans (Ok old) (Err fault) = Err (cause_of_fault in_new_plan fault)
both_plans (Ok old) (Ok new) = Ok (old, new)

-- the same from the plan of one text to that of another
abbrev pub LeaderBeginsFrom : List ℕ → List ℕ → LeaderSlot → LeaderSlot → ℕ → Type 0
LeaderBeginsFrom first second old new status = leader_begins (λ plans. BeginsFrom plans.0 plans.1) old old.node (both_plans (plan_of_text first) (plan_of_text second)) new status

-- what the host is told of an opening: the sub-plan, or the one that is not done and the partition that is waited for
abbrev pub numbers_told : Result ℕ LeaderFault → List ℕ
numbers_told (Ok sub) = sub ∷ []
numbers_told (Err Running) = []
numbers_told (Err NoNumber) = []
numbers_told (Err Idle) = []
numbers_told (Err (NotDone sub part)) = sub ∷ part ∷ []
numbers_told (Err NoMore) = []
numbers_told (Err NoMemory) = []

-- a slot and a room after the next sub-plan was to be opened
pub record OpensIn (old : LeaderSlot) (n : NodeValue) (room : List ℕ) (new : LeaderSlot) (told : List ℕ) (status : ℕ) : Type 0 where
  pub answer : Result ℕ LeaderFault
  pub node : NodeValue
  pub opens : Opens n answer node
  pub status_is : status ≡ open_number answer
  pub after : new ≡ with_node old node
  pub told_is : told ≡ over (take (length room) (numbers_told answer)) room

abbrev pub leader_opens : LeaderSlot → Option NodeValue → List ℕ → LeaderSlot → List ℕ → ℕ → Type 0
leader_opens old None room new told status = (status ≡ closed) × (new ≡ old) × (told ≡ room)
leader_opens old (Some n) room new told status = OpensIn old n room new told status

abbrev pub LeaderOpens : LeaderSlot → List ℕ → LeaderSlot → List ℕ → ℕ → Type 0
LeaderOpens old room new told status = leader_opens old old.node room new told status

-- ---- frames that wait

abbrev pub LeaderGathersBoard : ℕ → LeaderSlot → LeaderSlot → ℕ → Type 0
LeaderGathersBoard limit old new status = AnswersIn frame_number (KeepsBoard limit) old old.node new status

abbrev pub LeaderGathersDigest : ℕ → LeaderSlot → LeaderSlot → ℕ → Type 0
LeaderGathersDigest limit old new status = AnswersIn frame_number (KeepsDigest limit) old old.node new status

abbrev pub LeaderGathersRepair : ℕ → LeaderSlot → LeaderSlot → ℕ → Type 0
LeaderGathersRepair limit old new status = AnswersIn repair_number (KeepsRepair limit) old old.node new status

-- the frames that wait
abbrev pub frames_of_leader : Option NodeValue → List (List ℕ)
frames_of_leader None = []
frames_of_leader (Some n) = n.frames

-- the slot after the first frame that waits was to be put into the room
abbrev pub node_slot_after : LeaderSlot → Option NodeValue → List ℕ → LeaderSlot
node_slot_after old None room = old
node_slot_after old (Some n) room = with_node old (node_after n room)

abbrev pub leader_slot_after : LeaderSlot → List ℕ → LeaderSlot
leader_slot_after old room = node_slot_after old old.node room
