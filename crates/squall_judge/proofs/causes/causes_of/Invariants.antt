use Rattle.squall_judge.specs.Merges.{world_of}
use Rattle.squall_judge.proofs.Left.{AreSeenTo}
use Rattle.squall_judge.proofs.causes.causes_of.Given as goal

abbrev pub invariant-loop-at : goal.invariant-loop-at
invariant-loop-at l = AreSeenTo (world_of l.fn.merge) l.fn.logs l.fn.merge.taken.items l.fn.limits l.at l.causes.items
