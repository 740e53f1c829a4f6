-- The first values of nodes (this project).
use Rattle.std.specs.Prelude.{ℕ, List}
use Rattle.squall_plan.specs.declared.range.PlanRange.{PlanRange}
use Rattle.squall_course.specs.Change.{Change, ArePlans}
use Rattle.squall_protocol.specs.Steps.{IsPlan}
use Rattle.squall_part.specs.Parts.{IsPart, new_part}
use Rattle.squall_nodes.specs.Systems.{IsSystem, first_system}

-- a new partition of a course between two plans is one
abbrev pub NewPartsAreParts : Type 0
NewPartsAreParts = (p : ℕ) (c : Change) → ArePlans c.old c.new → IsPart (new_part p c)

-- the first values of all nodes of a system are such as their types can have
abbrev pub FirstSystemsAreSystems : Type 0
FirstSystemsAreSystems = (old new : List PlanRange) (routers : ℕ) → IsPlan old → IsPlan new → IsSystem (first_system old new routers)
