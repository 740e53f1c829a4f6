-- What a router of the C library answers for keys (this project).
use Rattle.std.specs.Prelude.{ℕ, min, max, nat_lt, nat_le, ◌&&◌, List, [], ◌∷◌, map, length, take, Option, None, Some, if◌then◌else◌}
use Rattle.squall_key.specs.Keys.{top}
use Rattle.squall_plan.specs.declared.range.PlanRange.{PlanRange}
use Rattle.squall_table.specs.Tables.{legs_between}
use Rattle.squall_router.specs.Routers.{course_of_router, route_of_router}
use Rattle.squall_c_values.specs.declared.legs.CLeg.{CLeg}
use Rattle.squall_c.specs.declared.router.Station.{Station}
use Rattle.squall_c_values.specs.Values.{c_leg}
use Rattle.squall_c.specs.Status.{nowhere}

-- the partition of a key by a route, where the rank is one of a key
abbrev pub part_at : (ℕ → ℕ) → ℕ → ℕ
part_at to_part rank = if nat_lt rank top then to_part rank else nowhere

-- the partition to ask, where there is a router
abbrev pub routed : Option Station → ℕ → ℕ
routed None rank = nowhere
routed (Some s) rank = part_at (route_of_router s.router) rank

-- the number of the course that it goes by
abbrev pub course_number : Option Station → ℕ
course_number None = 0
course_number (Some s) = (course_of_router s.router).number

-- ---- legs

-- the legs of a route from one rank to another, where these are bounds with a key between them
abbrev pub legs_by : (ℕ → ℕ) → ℕ → ℕ → List PlanRange
legs_by to_part lo hi = if nat_lt lo hi && nat_le hi top then legs_between to_part lo hi else []

-- those of a router
abbrev pub legs_of_station : Option Station → ℕ → ℕ → List PlanRange
legs_of_station None lo hi = []
legs_of_station (Some s) lo hi = legs_by (route_of_router s.router) lo hi

-- as many of the legs as the room holds
abbrev pub that_fit : List PlanRange → List CLeg → List CLeg
that_fit legs room = take (length room) (map c_leg legs)

-- ---- legs cut to two ranks

-- what lies of a leg between them
abbrev pub cut_leg : ℕ → ℕ → PlanRange → CLeg
cut_leg lo hi l = record { lo = max l.span.lo lo; hi = min l.span.hi hi; part = l.part }

-- of each leg, up to the first that lies beyond the second
abbrev pub cut_legs : ℕ → ℕ → List PlanRange → List CLeg
cut_legs lo hi [] = []
cut_legs lo hi (l ∷ ls) = if nat_lt l.span.lo hi then cut_leg lo hi l ∷ cut_legs lo hi ls else []
