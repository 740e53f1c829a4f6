-- How it is told that a plan was read, and that a router was opened.
use Rattle.std.specs.Prelude.{◌≡◌, ◌≢◌, ℕ, List, Result, Ok, Err, refl}
use Rattle.std.proofs.Common.{sym, ap, subst, arith}
use Rattle.squall_plan.specs.declared.range.PlanRange.{PlanRange}
use Rattle.squall_plan.specs.declared.fault.PlanFault.{PlanFault}
use Rattle.squall_plan.specs.declared.fault.PlanFault.TheVariants.{NoMemory}
use Rattle.squall_plan.specs.Arranged.{Gives}
use Rattle.squall_course.specs.Change.{Change}
use Rattle.squall_c.specs.declared.status.Cause.{Cause}
use Rattle.squall_c.specs.declared.router.Station.{Station}
use Rattle.squall_c.specs.Status.{ok, no_memory, plan_status, cause_of_fault, plan_or_cause, GivesSeen, PlacesMemory, NeedsNumber}
use Rattle.squall_c.specs.Opening.{first_course, slot_of_router, IsStationOf, IsSlotOf, IsOpened}

-- the cause of a fault is wanted, unless it is that there was not the memory
pub plan_told : (added : ℕ) (read want : Result (List PlanRange) PlanFault) → Gives read want → GivesSeen (λ p. p) (plan_or_cause added read) (plan_or_cause added want)
plan_told added (Ok plan) want is = ap (plan_or_cause added) is
plan_told added (Err fault) want is = λ (other : (cause_of_fault added fault).status ≢ no_memory). ap (plan_or_cause added) (is (λ (e : fault ≡ NoMemory). other (ap (plan_status added) e)))

-- the slot of the station that was made, or of why none was
pub router_opened : (number : ℕ) (old new : List ℕ) (answer : Result Station Cause) → IsStationOf (first_course number old new) answer → PlacesMemory answer → NeedsNumber number answer
    → IsOpened number old new (slot_of_router answer)
router_opened number old new (Ok s) (first, is, fresh) places needs = record {
  opened = λ other. subst (λ (want : Result Change Cause). IsSlotOf want (slot_of_router (Ok s))) (sym is) (refl, refl, fresh);
  memory = λ (e : ok ≡ no_memory). absurd (omega (arith, e));
  numbered = λ (e : ok ≡ no_memory). absurd (omega (arith, e));
}
router_opened number old new (Err cause) is places needs = record {
  opened = λ other. subst (λ (want : Result Change Cause). IsSlotOf want (slot_of_router (Err cause))) (sym (is other)) (refl, refl, refl);
  memory = λ e. (refl, places e);
  numbered = needs;
}
