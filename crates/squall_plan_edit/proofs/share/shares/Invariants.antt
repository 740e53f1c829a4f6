use Rattle.std.proofs.Common.{◌++◌, ◌-◌, [], ◌∷◌}
use Rattle.squall_key.specs.Keys.{top}
use Rattle.squall_plan_edit.specs.Legs.{AreLegs}
use Rattle.squall_plan_edit.specs.Shares.{owner_shared}
use Rattle.squall_plan_edit.proofs.share.shares.Given as goal

abbrev pub invariant-loop-below : goal.invariant-loop-below
invariant-loop-below l = AreLegs (owner_shared l.below l.parts) 0 l.run.span.hi (l.shares.items ++ l.run ∷ [])

abbrev pub decreases-loop-below : goal.decreases-loop-below
decreases-loop-below l = top - l.run.span.hi
