-- What lies where a handle of the C library points to (this project).
use Rattle.std.specs.Prelude.{ℕ}
use Rattle.std.specs.Borrow.{Fml, fsep, ftrue, full_share}
use Rattle.std.specs.Ptr.{Ptr, lies_at, room_at}
use base.Fml.{fex}
use prog.Memory.{size, capped}
use denote.Param.{layout}
use Rattle.squall_c.specs.contracts.router.RouterSlot.{the_row as router_row}
use Rattle.squall_c.specs.contracts.views.ViewSlot.{the_row as view_row}
use Rattle.squall_c.specs.contracts.courses.CourseSlot.{the_row as course_row}
use Rattle.squall_c.specs.contracts.errands.ErrandSlot.{the_row as errand_row}
use Rattle.squall_c.specs.contracts.parts.PartSlot.{the_row as part_row}
use Rattle.squall_c.specs.declared.router.RouterSlot.{RouterSlot}
use Rattle.squall_c.specs.declared.views.ViewSlot.{ViewSlot}
use Rattle.squall_c.specs.declared.courses.CourseSlot.{CourseSlot}
use Rattle.squall_c.specs.declared.errands.ErrandSlot.{ErrandSlot}
use Rattle.squall_c.specs.declared.parts.PartSlot.{PartSlot}

-- ---- routers

-- how many bytes a router's slot takes
abbrev pub router_bytes : ℕ
router_bytes = capped (size (layout router_row))

-- there is room for a router's slot at p, and nothing of use lies there
abbrev pub router_room : Ptr → Fml
router_room p = room_at router_row p

-- the router's slot s lies at p, and nobody else has a part in it
abbrev pub router_at : Ptr → RouterSlot → Fml
router_at p s = lies_at router_row full_share p s

-- a router's slot of which the fact holds lies at p
abbrev pub router_such : Ptr → (RouterSlot → Type 0) → Fml
router_such p P = fex RouterSlot (λ s. fsep (router_at p s) (fex (P s) (λ _. ftrue)))

-- ---- views, likewise

abbrev pub view_bytes : ℕ
view_bytes = capped (size (layout view_row))

abbrev pub view_room : Ptr → Fml
view_room p = room_at view_row p

abbrev pub view_at : Ptr → ViewSlot → Fml
view_at p s = lies_at view_row full_share p s

abbrev pub view_such : Ptr → (ViewSlot → Type 0) → Fml
view_such p P = fex ViewSlot (λ s. fsep (view_at p s) (fex (P s) (λ _. ftrue)))

-- ---- courses, likewise

abbrev pub course_bytes : ℕ
course_bytes = capped (size (layout course_row))

abbrev pub course_room : Ptr → Fml
course_room p = room_at course_row p

abbrev pub course_at : Ptr → CourseSlot → Fml
course_at p s = lies_at course_row full_share p s

abbrev pub course_such : Ptr → (CourseSlot → Type 0) → Fml
course_such p P = fex CourseSlot (λ s. fsep (course_at p s) (fex (P s) (λ _. ftrue)))

-- ---- errands, likewise

abbrev pub errand_bytes : ℕ
errand_bytes = capped (size (layout errand_row))

abbrev pub errand_room : Ptr → Fml
errand_room p = room_at errand_row p

abbrev pub errand_at : Ptr → ErrandSlot → Fml
errand_at p s = lies_at errand_row full_share p s

abbrev pub errand_such : Ptr → (ErrandSlot → Type 0) → Fml
errand_such p P = fex ErrandSlot (λ s. fsep (errand_at p s) (fex (P s) (λ _. ftrue)))

-- ---- partitions, likewise

abbrev pub part_bytes : ℕ
part_bytes = capped (size (layout part_row))

abbrev pub part_room : Ptr → Fml
part_room p = room_at part_row p

abbrev pub part_at : Ptr → PartSlot → Fml
part_at p s = lies_at part_row full_share p s

abbrev pub part_such : Ptr → (PartSlot → Type 0) → Fml
part_such p P = fex PartSlot (λ s. fsep (part_at p s) (fex (P s) (λ _. ftrue)))
