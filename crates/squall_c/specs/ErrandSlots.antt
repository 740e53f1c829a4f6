-- Errands of the C library: replies and answers as numbers (this project).
use Rattle.std.specs.Prelude.{ℕ, ◌==◌, nat_lt, Option, None, Some, if◌then◌else◌}
use Rattle.squall_key.specs.Keys.{top, part_limit}
use Rattle.squall_plan.specs.Ranges.{owner_of}
use Rattle.squall_errand.specs.declared.errand.Reply.{Reply}
use Rattle.squall_errand.specs.declared.errand.Reply.TheVariants.{Held, Moved, Pending, Behind, Elsewhere}
use Rattle.squall_errand.specs.declared.errand.Next.{Next}
use Rattle.squall_errand.specs.declared.errand.Next.TheVariants.{Ask, Again, Served, Lost}
use Rattle.squall_router.specs.Routers.{route_of_router}
use Rattle.squall_errand.specs.Errands.{ErrandValue, errand_from, step_of}
use Rattle.squall_c.specs.declared.router.Station.{Station}
use Rattle.squall_c.specs.declared.views.View.{View}
use Rattle.squall_c.specs.declared.errands.ErrandSlot.{ErrandSlot}
use Rattle.squall_c.specs.Status.{ok, limit, closed, nowhere}

-- ---- its start

-- no errand, and why
abbrev pub no_errand : ℕ → ErrandSlot
no_errand status = record { status = status; errand = None }

-- an errand for the key of that rank by a route, where there is such a key
abbrev pub errand_by : (ℕ → ℕ) → ℕ → ErrandSlot
errand_by to_part rank = if nat_lt rank top then record { status = ok; errand = Some (errand_from (to_part rank)) } else no_errand limit

-- by a router
abbrev pub errand_of_station : Option Station → ℕ → ErrandSlot
errand_of_station None rank = no_errand closed
errand_of_station (Some s) rank = errand_by (route_of_router s.router) rank

-- by a view
abbrev pub errand_of_view : Option View → ℕ → ErrandSlot
errand_of_view None rank = no_errand closed
errand_of_view (Some v) rank = errand_by (owner_of v.table) rank

-- the partition to ask
abbrev pub asked_by : Option ErrandValue → ℕ
asked_by None = nowhere
asked_by (Some e) = e.asked

-- the number of the last `Moved`
abbrev pub moved_number : Option ErrandValue → ℕ
moved_number None = 0
moved_number (Some e) = e.number

-- ---- replies and answers

-- the reply with a partition, where there can be one of that number
abbrev pub with_part : ℕ → (ℕ → Reply) → Option Reply
with_part part reply = if nat_lt part part_limit then Some (reply part) else None

-- the reply of a number: 0 held, 1 moved, 2 pending, 3 behind, 4 elsewhere; the others say nothing
abbrev pub reply_of : ℕ → ℕ → ℕ → Option Reply
reply_of reply part number =
    if reply == 0 then Some Held
    else (if reply == 1 then with_part part (λ dest. Moved dest number)
    else (if reply == 2 then with_part part Pending
    else (if reply == 3 then Some Behind
    else (if reply == 4 then with_part part Elsewhere
    else None))))

-- the number of an answer
abbrev pub answer_of : Next → ℕ
answer_of Served = 0
answer_of (Ask part) = 1
answer_of (Again part) = 2
answer_of Lost = 3

-- the number that answers what is no reply
abbrev pub no_answer : ℕ
no_answer = 255

-- what comes next, and the slot after it
pub record Heeded : Type 0 where
  pub answer : ℕ
  pub slot : ErrandSlot

abbrev pub heeded_by : ErrandSlot → Option ErrandValue → Option Reply → Heeded
heeded_by slot None reply = record { answer = no_answer; slot = slot }
heeded_by slot (Some e) None = record { answer = no_answer; slot = slot }
heeded_by slot (Some e) (Some reply) = record { answer = answer_of (step_of e reply).next; slot = record slot { errand = Some (step_of e reply).after } }

-- an errand takes a reply; what is no reply, and where there is no errand, changes nothing
abbrev pub heeded : ErrandSlot → Option Reply → Heeded
heeded slot reply = heeded_by slot slot.errand reply
