use Rattle.std.proofs.Common.{◌++◌, ◌-◌, [], ◌∷◌}
use Rattle.squall_key.specs.Keys.{top}
use Rattle.squall_plan_edit.specs.Moved.{owner_after}
use Rattle.squall_plan_edit.specs.Legs.{AreLegs}
use Rattle.squall_plan_edit.proofs.edit.legs.Given as goal

abbrev pub invariant-loop-leg : goal.invariant-loop-leg
invariant-loop-leg l = AreLegs (owner_after l.given l.old) 0 l.run.span.hi (l.legs.items ++ l.run ∷ [])

abbrev pub decreases-loop-leg : goal.decreases-loop-leg
decreases-loop-leg l = top - l.run.span.hi
