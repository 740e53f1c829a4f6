-- What C sees of ranges, moves, receivers, spans and places (this project).
use Rattle.std.specs.Prelude.{ℕ, nat_lt, List, map, length, take, drop, Option, None, Some, if◌then◌else◌}
use Rattle.squall_key.specs.Keys.{top}
use Rattle.squall_span.specs.Spans.{Interval}
use Rattle.squall_plan.specs.declared.range.PlanRange.{PlanRange}
use Rattle.squall_plan.specs.Ranges.{owner_of}
use Rattle.squall_course.specs.Change.{Change}
use Rattle.squall_course.specs.declared.moving.Move.{Move}
use Rattle.squall_course.specs.Subplans.{subplan_of}
use Rattle.squall_course.specs.Moves.{moves_of, receivers_of}
use Rattle.squall_c_values.specs.declared.legs.CLeg.{CLeg}
use Rattle.squall_c_values.specs.declared.moves.CMove.{CMove}
use Rattle.squall_c_values.specs.declared.places.CPlace.{CPlace}
use Rattle.squall_c_values.specs.declared.spans.CSpan.{CSpan}

-- as many of the items, each seen so, as the room holds
abbrev pub firsts_that_fit : {X Y : Type 0} → (X → Y) → List X → List Y → List Y
firsts_that_fit see xs room = take (length room) (map see xs)

-- ---- ranges and moves

-- a range, or a leg
abbrev pub c_leg : PlanRange → CLeg
c_leg r = record { lo = r.span.lo; hi = r.span.hi; part = r.part }

-- the ranges from a place on
abbrev pub ranges_that_fit : List PlanRange → ℕ → List CLeg → List CLeg
ranges_that_fit ranges from room = firsts_that_fit c_leg (drop from ranges) room

-- a span
abbrev pub c_span : Interval → CSpan
c_span s = record { lo = s.lo; hi = s.hi }

-- the spans from a place on
abbrev pub spans_that_fit : List Interval → ℕ → List CSpan → List CSpan
spans_that_fit spans from room = firsts_that_fit c_span (drop from spans) room

-- a move
abbrev pub c_move : Move → CMove
c_move m = record { lo = m.span.lo; hi = m.span.hi; source = m.source; dest = m.dest; sub = m.sub }

-- the moves of a course from a place on
abbrev pub moves_that_fit : Change → ℕ → List CMove → List CMove
moves_that_fit c from room = firsts_that_fit c_move (drop from (moves_of c.old c.new)) room

-- the partitions to which keys move in a sub-plan
abbrev pub receivers_that_fit : Change → ℕ → List ℕ → List ℕ
receivers_that_fit c sub room = firsts_that_fit (λ p. p) (receivers_of (moves_of c.old c.new) sub) room

-- ---- places

-- in the place of a number: none
abbrev pub none : ℕ
none = 4294967295

-- the place of a rank that is no key's
abbrev pub no_key : CPlace
no_key = record { part = none; source = none; dest = none; sub = none }

abbrev pub sub_or_none : Option ℕ → ℕ
sub_or_none None = none
sub_or_none (Some sub) = sub

-- the place of a key by a route: whom to ask, the owners by both plans, and the sub-plan
abbrev pub place_of : Change → (ℕ → ℕ) → ℕ → CPlace
place_of c to_part k = record { part = to_part k; source = owner_of c.old k; dest = owner_of c.new k; sub = sub_or_none (subplan_of c.old c.new k) }

abbrev pub place_at : Change → (ℕ → ℕ) → ℕ → CPlace
place_at c to_part rank = if nat_lt rank top then place_of c to_part rank else no_key

-- the places of the keys of some ranks
abbrev pub places_that_fit : Change → (ℕ → ℕ) → List ℕ → List CPlace → List CPlace
places_that_fit c to_part ranks room = firsts_that_fit (place_at c to_part) ranks room
