-- Views: what a router of the C library answered at one moment (this project).
use Rattle.std.specs.Prelude.{◌≡◌, ◌≢◌, ℕ, List, [], map, take, length, Option, None, Some, Result, Ok, Err}
use Rattle.std.specs.declared.alloc.AllocError.{AllocError}
use Rattle.squall_plan.specs.declared.range.PlanRange.{PlanRange}
use Rattle.squall_plan.specs.Ranges.{owner_of}
use Rattle.squall_router.specs.Routers.{RouterValue, course_of_router, IsTableOf}
use Rattle.squall_c_values.specs.declared.places.CPlace.{CPlace}
use Rattle.squall_c_values.specs.Values.{places_that_fit}
use Rattle.squall_c.specs.declared.router.Station.{Station}
use Rattle.squall_c.specs.declared.views.View.{View}
use Rattle.squall_c.specs.declared.views.ViewSlot.{ViewSlot}
use Rattle.squall_c.specs.Status.{ok, no_memory, closed, nowhere}
use Rattle.squall_c.specs.Showing.{part_at, legs_by}

-- a view with the table of a router, and its course
abbrev pub Shows : RouterValue → Option View → Type 0
Shows r None = ⊥
Shows r (Some v) = IsTableOf r v.table × (v.course ≡ course_of_router r)

-- nothing is to be seen, and the status says why
abbrev pub IsBlank : ℕ → ViewSlot → Type 0
IsBlank status slot = (slot.status ≡ status) × (slot.view ≡ None)

-- a view of the router, or the lack of memory for one
pub record IsViewOfRouter (r : RouterValue) (slot : ViewSlot) : Type 0 where
  pub shows : slot.status ≢ no_memory → (slot.status ≡ ok) × Shows r slot.view
  pub memory : slot.status ≡ no_memory → slot.view ≡ None

-- a view of a router that may be closed
abbrev pub IsViewOf : Option Station → ViewSlot → Type 0
IsViewOf None slot = IsBlank closed slot
IsViewOf (Some s) slot = IsViewOfRouter s.router slot

-- that view, or the lack of memory for it
pub record IsViewAgain (v : View) (slot : ViewSlot) : Type 0 where
  pub shows : slot.status ≢ no_memory → (slot.status ≡ ok) × (slot.view ≡ Some v)
  pub memory : slot.status ≡ no_memory → slot.view ≡ None

-- the same view once more, or why there is none
abbrev pub IsSameAs : ViewSlot → Option View → ViewSlot → Type 0
IsSameAs old None new = IsBlank old.status new
IsSameAs old (Some v) new = IsViewAgain v new

abbrev pub IsSameView : ViewSlot → ViewSlot → Type 0
IsSameView old new = IsSameAs old old.view new

-- ---- what it answers

-- the partition to ask
abbrev pub seen : Option View → ℕ → ℕ
seen None rank = nowhere
seen (Some v) rank = part_at (owner_of v.table) rank

-- the partitions to ask for the keys of some ranks, as many as the room holds
abbrev pub routes_that_fit : Option View → List ℕ → List ℕ → List ℕ
routes_that_fit view ranks room = take (length room) (map (seen view) ranks)

-- where the keys of some ranks stand, as many as the room holds
abbrev pub places_of_view : Option View → List ℕ → List CPlace → List CPlace
places_of_view None ranks room = []
places_of_view (Some v) ranks room = places_that_fit v.course (owner_of v.table) ranks room

-- the key is where the new plan has it: it does not move, or its load is known
abbrev pub IsSettled : CPlace → Type 0
IsSettled p = p.part ≡ p.dest

-- the number of the course
abbrev pub seen_number : Option View → ℕ
seen_number None = 0
seen_number (Some v) = v.course.number

-- the legs from one rank to another
abbrev pub legs_of_view : Option View → ℕ → ℕ → List PlanRange
legs_of_view None lo hi = []
legs_of_view (Some v) lo hi = legs_by (owner_of v.table) lo hi

-- ---- slots

-- no view, for that reason
abbrev pub blank_view : ℕ → ViewSlot
blank_view status = record { status = status; view = None }

-- a view, or that there was not the memory for one
abbrev pub slot_of_view : Result View AllocError → ViewSlot
slot_of_view (Ok v) = record { status = ok; view = Some v }
slot_of_view (Err e) = blank_view no_memory
