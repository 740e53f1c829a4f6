-- The numbers by which calls of the C library say how they ended (this project).
use Rattle.std.specs.Prelude.{◌≡◌, ◌≢◌, ◌≤◌, ℕ, ◌+◌, List, Option, None, Some, Result, Ok, Err}
use Rattle.squall_plan.specs.declared.fault.PlanFault.{PlanFault}
use Rattle.squall_plan.specs.declared.range.PlanRange.{PlanRange}
use Rattle.squall_plan.specs.declared.fault.PlanFault.TheVariants.{Json, Shape, BadPart, BadBound, EmptyRange, TooMany, Overlap, Gap, NoMemory}
use Rattle.squall_c.specs.declared.status.Cause.{Cause}

-- it was done
abbrev pub ok : ℕ
ok = 0

-- there was not the memory for it
abbrev pub no_memory : ℕ
no_memory = 1

-- a number lies outside its limits, or a span has no key
abbrev pub limit : ℕ
limit = 2

-- there is no router, or nothing to be seen
abbrev pub closed : ℕ
closed = 3

-- a fault ended the stream before
abbrev pub failed : ℕ
failed = 4

-- a frame would have more bytes than it may have
abbrev pub too_long : ℕ
too_long = 5

-- no digest was heard
abbrev pub no_digest : ℕ
no_digest = 6

-- the router would hear of more than its limit
abbrev pub full : ℕ
full = 7

-- no partition
abbrev pub nowhere : ℕ
nowhere = 4294967295

-- no entry, and no key
abbrev pub no_place : ℕ
no_place = 18446744073709551615

-- added to the number of a fault where it is one of the new plan
abbrev pub in_new_plan : ℕ
in_new_plan = 20

-- the number of a fault of a plan, where so much is added to it
abbrev pub plan_status : ℕ → PlanFault → ℕ
plan_status added Json = 11 + added
plan_status added (Shape entry) = 12 + added
plan_status added (BadPart entry) = 13 + added
plan_status added (BadBound entry) = 14 + added
plan_status added (EmptyRange entry) = 15 + added
plan_status added TooMany = 16 + added
plan_status added (Overlap bound) = 17 + added
plan_status added (Gap bound) = 18 + added
plan_status added NoMemory = no_memory

-- where it lies: the index of its entry, or the rank of its bound
abbrev pub plan_place : PlanFault → ℕ
plan_place Json = no_place
plan_place (Shape None) = no_place
plan_place (Shape (Some entry)) = entry
plan_place (BadPart entry) = entry
plan_place (BadBound entry) = entry
plan_place (EmptyRange entry) = entry
plan_place TooMany = no_place
plan_place (Overlap bound) = bound
plan_place (Gap bound) = bound
plan_place NoMemory = no_place

-- ---- why a call does nothing

-- the status that says so, where no plan has a fault
abbrev pub cause_with : ℕ → Cause
cause_with status = record { status = status; at = no_place }

-- a fault of a plan
abbrev pub cause_of_fault : ℕ → PlanFault → Cause
cause_of_fault added fault = record { status = plan_status added fault; at = plan_place fault }

-- what was wanted, of a value seen in some way, unless there was not the memory for it
abbrev pub GivesSeen : {X Y : Type 0} → (X → Y) → Result X Cause → Result Y Cause → Type 0
GivesSeen view (Ok x) want = want ≡ Ok (view x)
GivesSeen view (Err cause) want = cause.status ≢ no_memory → want ≡ Err cause

-- the plan of a text, or its fault with so much added to its number
abbrev pub plan_or_cause : ℕ → Result (List PlanRange) PlanFault → Result (List PlanRange) Cause
plan_or_cause added (Ok plan) = Ok plan
plan_or_cause added (Err fault) = Err (cause_of_fault added fault)

-- where there was not the memory, no plan has a fault
abbrev pub PlacesMemory : {X : Type 0} → Result X Cause → Type 0
PlacesMemory (Ok x) = Unit {0}
PlacesMemory (Err cause) = cause.status ≡ no_memory → cause.at ≡ no_place

-- there was not the memory for it only if the number is not 0
abbrev pub NeedsNumber : {X : Type 0} → ℕ → Result X Cause → Type 0
NeedsNumber number (Ok x) = Unit {0}
NeedsNumber number (Err cause) = cause.status ≡ no_memory → 1 ≤ number
