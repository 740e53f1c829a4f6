-- What a router of the C library is, and how it is opened (this project).
use Rattle.std.specs.Prelude.{◌≡◌, ◌≢◌, ◌≤◌, ℕ, ◌==◌, List, [], Option, None, Some, Result, Ok, Err, if◌then◌else◌}
use Rattle.squall_plan.specs.declared.range.PlanRange.{PlanRange}
use Rattle.squall_plan.specs.declared.fault.PlanFault.{PlanFault}
use Rattle.squall_plan.specs.Form.{plan_of_text}
use Rattle.squall_course.specs.Change.{Change}
use Rattle.squall_board.specs.Boards.{BoardValue, empty_board}
use Rattle.squall_router.specs.Routers.{router_with}
use Rattle.squall_status.specs.declared.tally.Tally.{Tally}
use Rattle.squall_wire.specs.Hearing.{new_feed}
use Rattle.squall_c.specs.declared.status.Cause.{Cause}
use Rattle.squall_c.specs.declared.router.RouterSlot.{RouterSlot}
use Rattle.squall_c.specs.declared.router.Station.{Station}
use Rattle.squall_c.specs.Status.{ok, no_memory, limit, closed, no_place, in_new_plan, cause_with, cause_of_fault}

-- ---- parts of a slot

-- the slot with another station
abbrev pub with_station : RouterSlot → Station → RouterSlot
with_station slot s = record slot { station = Some s }

-- the station with another board
abbrev pub with_board : Station → BoardValue → Station
with_board s board = record s { router = router_with s.router.first board }

-- the station with other frames that wait
abbrev pub with_frames : Station → List (List ℕ) → Station
with_frames s frames = record s { frames = frames }

-- the station with another limit on what frames may tell
abbrev pub with_limit : Station → Option Tally → Station
with_limit s most = record s { most = most }

-- the call ended so, with its status and the slot after it; or there was not the memory for it, and nothing changed
pub record Ends (old : RouterSlot) (IsEnd : RouterSlot → ℕ → Type 0) (new : RouterSlot) (status : ℕ) : Type 0 where
  pub ended : status ≢ no_memory → IsEnd new status
  pub memory : status ≡ no_memory → new ≡ old

-- the station has answered, and the status is the number of the answer
pub record StationAnswers {X : Type 0} (number : X → ℕ) (Acts : Station → X → Station → Type 0) (old : RouterSlot) (s : Station) (new : RouterSlot) (status : ℕ) : Type 0 where
  pub answer : X
  pub station : Station
  pub acts : Acts s answer station
  pub told : status ≡ number answer
  pub after : new ≡ with_station old station

-- the same if there is a router
abbrev pub AnswersIn : {X : Type 0} → (X → ℕ) → (Station → X → Station → Type 0) → RouterSlot → Option Station → RouterSlot → ℕ → Type 0
AnswersIn number Acts old None new status = (status ≡ closed) × (new ≡ old)
AnswersIn number Acts old (Some s) new status = StationAnswers number Acts old s new status

-- it was done, and the slot is this one
abbrev pub IsDone : RouterSlot → RouterSlot → ℕ → Type 0
IsDone done new status = (status ≡ ok) × (new ≡ done)

-- ---- opening

-- the course from one plan to another, or the fault of the first that has one
abbrev pub course_of_plans : ℕ → Result (List PlanRange) PlanFault → Result (List PlanRange) PlanFault → Result Change Cause
course_of_plans number (Err fault) new = Err (cause_of_fault 0 fault)
course_of_plans number (Ok old) (Err fault) = Err (cause_of_fault in_new_plan fault)
course_of_plans number (Ok old) (Ok new) = Ok (record { number = number; old = old; new = new })

-- the first course of a router, or why there is none: the number 0, and then a fault of a plan
abbrev pub first_course : ℕ → List ℕ → List ℕ → Result Change Cause
first_course number old new = if number == 0 then Err (cause_with limit) else course_of_plans number (plan_of_text old) (plan_of_text new)

-- a router that has heard nothing
abbrev pub IsNew : Change → Option Station → Type 0
IsNew first None = ⊥
IsNew first (Some s) = (s.router ≡ router_with first empty_board) × (s.feed ≡ new_feed) × (s.heard ≡ None) × (s.frames ≡ []) × (s.most ≡ None) × (s.taken ≡ 0)

-- such a router, or why there is none, unless there was not the memory for it
abbrev pub IsStationOf : Result Change Cause → Result Station Cause → Type 0
IsStationOf want (Ok s) = (first : Change) × (want ≡ Ok first) × IsNew first (Some s)
IsStationOf want (Err cause) = cause.status ≢ no_memory → want ≡ Err cause

-- the slot of a router, or of why there is none
abbrev pub slot_of_router : Result Station Cause → RouterSlot
slot_of_router (Ok s) = record { status = ok; fault_at = no_place; station = Some s }
slot_of_router (Err cause) = record { status = cause.status; fault_at = cause.at; station = None }

-- the slot of such a router, or of why there is none
abbrev pub IsSlotOf : Result Change Cause → RouterSlot → Type 0
IsSlotOf (Ok first) slot = (slot.status ≡ ok) × (slot.fault_at ≡ no_place) × IsNew first slot.station
IsSlotOf (Err cause) slot = (slot.status ≡ cause.status) × (slot.fault_at ≡ cause.at) × (slot.station ≡ None)

-- the slot that is opened: that of the plans of both texts, unless there was not the memory for it, and then there is no router; the
-- number 0 needs no memory
pub record IsOpened (number : ℕ) (old new : List ℕ) (slot : RouterSlot) : Type 0 where
  pub opened : slot.status ≢ no_memory → IsSlotOf (first_course number old new) slot
  pub memory : slot.status ≡ no_memory → (slot.station ≡ None) × (slot.fault_at ≡ no_place)
  pub numbered : slot.status ≡ no_memory → 1 ≤ number
