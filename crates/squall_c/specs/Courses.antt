-- Courses of the C library: how they are opened, and what they tell (this project).
use Rattle.std.specs.Prelude.{◌≡◌, ◌≢◌, ◌≤◌, ℕ, List, [], length, take, drop, Option, None, Some, Result, Ok, Err}
use Rattle.squall_course.specs.Change.{Change}
use Rattle.squall_course.specs.Moves.{moves_of, receivers_of}
use Rattle.squall_course.specs.Subplans.{subplan_count}
use Rattle.squall_report.specs.declared.report.ReportKind.TheVariants.{Issued}
use Rattle.squall_report.specs.Issues.{plan_pair}
use Rattle.squall_router.specs.Routers.{RouterValue}
use Rattle.squall_c_values.specs.declared.legs.CLeg.{CLeg}
use Rattle.squall_c_values.specs.declared.moves.CMove.{CMove}
use Rattle.squall_c_values.specs.Rooms.{over}
use Rattle.squall_c_values.specs.ReportFrames.{no_count, frame_of, PutsFrame}
use Rattle.squall_c_values.specs.Values.{moves_that_fit, ranges_that_fit}
use Rattle.squall_c.specs.declared.status.Cause.{Cause}
use Rattle.squall_c.specs.declared.router.Station.{Station}
use Rattle.squall_c.specs.declared.courses.HeldCourse.{HeldCourse}
use Rattle.squall_c.specs.declared.courses.CourseSlot.{CourseSlot}
use Rattle.squall_c.specs.Status.{ok, no_memory, closed, no_place, cause_with}
use Rattle.squall_c.specs.Opening.{first_course}

-- ---- opening

-- the course is held
abbrev pub Holds : Change → Option HeldCourse → Type 0
Holds c None = ⊥
Holds c (Some held) = held.course ≡ c

-- the slot of a course, or of why there is none
abbrev pub IsSlotWith : Result Change Cause → CourseSlot → Type 0
IsSlotWith (Ok c) slot = (slot.status ≡ ok) × (slot.fault_at ≡ no_place) × Holds c slot.course
IsSlotWith (Err cause) slot = (slot.status ≡ cause.status) × (slot.fault_at ≡ cause.at) × (slot.course ≡ None)

-- the slot of what is wanted, unless there was not the memory for it, and then there is no course
pub record IsCourseSlot (want : Result Change Cause) (slot : CourseSlot) : Type 0 where
  pub opened : slot.status ≢ no_memory → IsSlotWith want slot
  pub memory : slot.status ≡ no_memory → (slot.course ≡ None) × (slot.fault_at ≡ no_place)

-- the slot that is opened: that of the plans of both texts; the number 0 needs no memory
pub record IsCourseOpened (number : ℕ) (old new : List ℕ) (slot : CourseSlot) : Type 0 where
  pub course : IsCourseSlot (first_course number old new) slot
  pub numbered : slot.status ≡ no_memory → 1 ≤ number

-- a course that there is
abbrev pub course_seen : Change → Result Change Cause
course_seen c = Ok c

-- one of the courses of a router, unless it is closed
abbrev pub IsCourseOf : (RouterValue → Change) → Option Station → CourseSlot → Type 0
IsCourseOf which None slot = IsSlotWith (Err (cause_with closed)) slot
IsCourseOf which (Some s) slot = IsCourseSlot (course_seen (which s.router)) slot

-- ---- what it tells

-- its number, or 0
abbrev pub number_of : Option HeldCourse → ℕ
number_of None = 0
number_of (Some held) = held.course.number

-- how many sub-plans it has
abbrev pub subplans_of : Option HeldCourse → ℕ
subplans_of None = 0
subplans_of (Some held) = subplan_count held.course.old held.course.new

-- its moves from a place on, as many as the room holds
abbrev pub moves_of_slot : Option HeldCourse → ℕ → List CMove → List CMove
moves_of_slot None from room = []
moves_of_slot (Some held) from room = moves_that_fit held.course from room

-- the ranges of its plans, likewise
abbrev pub old_of_slot : Option HeldCourse → ℕ → List CLeg → List CLeg
old_of_slot None from room = []
old_of_slot (Some held) from room = ranges_that_fit held.course.old from room

abbrev pub new_of_slot : Option HeldCourse → ℕ → List CLeg → List CLeg
new_of_slot None from room = []
new_of_slot (Some held) from room = ranges_that_fit held.course.new from room

-- the receivers of a sub-plan from a place on, and as many of them as the room holds
abbrev pub receivers_from : Change → ℕ → ℕ → List ℕ
receivers_from c sub from = drop from (receivers_of (moves_of c.old c.new) sub)

abbrev pub receivers_of_slot : Option HeldCourse → ℕ → ℕ → List ℕ → List ℕ
receivers_of_slot None sub from room = []
receivers_of_slot (Some held) sub from room = take (length room) (receivers_from held.course sub from)

-- they are written, or there was not the memory for it
pub record GivesReceivers (course : Option HeldCourse) (sub from : ℕ) (old new : List ℕ) (count : ℕ) : Type 0 where
  pub given : count ≢ no_count → (new ≡ over (receivers_of_slot course sub from old) old) × (count ≡ length (receivers_of_slot course sub from old))
  pub memory : count ≡ no_count → new ≡ old

-- the frame of the report that the course was issued is put into the room
abbrev pub PutsIssue : Option HeldCourse → List ℕ → List ℕ → ℕ → Type 0
PutsIssue None old new count = (count ≡ 0) × (new ≡ old)
PutsIssue (Some held) old new count = PutsFrame (frame_of (Issued held.course.number (plan_pair held.course.old held.course.new))) old new count
