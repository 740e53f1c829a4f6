use Rattle.std.proofs.Common.{◌++◌, take}
use Rattle.std.specs.Prelude.{reverse}
use Rattle.squall_plan.specs.Ranges.{owner_of}
use Rattle.squall_plan_edit.specs.Legs.{IsHeld}
use Rattle.squall_plan_edit.proofs.edit.held_at.Given as goal

abbrev pub invariant-loop-range : goal.invariant-loop-range
invariant-loop-range l = IsHeld (owner_of (reverse (take l.range-index l.given) ++ l.old)) l.at l.held
