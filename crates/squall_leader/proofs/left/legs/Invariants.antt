use Rattle.std.proofs.Common.{◌++◌, ◌-◌, [], ◌∷◌}
use Rattle.squall_key.specs.Keys.{top}
use Rattle.squall_leader.specs.Left.{left_at}
use Rattle.squall_leader.specs.Leaving.{AreLegs}
use Rattle.squall_leader.proofs.left.legs.Given as goal

abbrev pub invariant-loop-leg : goal.invariant-loop-leg
invariant-loop-leg l = AreLegs (left_at l.course l.loaded) 0 l.run.span.hi (l.legs.items ++ l.run ∷ [])

abbrev pub decreases-loop-leg : goal.decreases-loop-leg
decreases-loop-leg l = top - l.run.span.hi
