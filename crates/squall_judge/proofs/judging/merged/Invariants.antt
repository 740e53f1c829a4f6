use Rattle.squall_protocol.specs.Worlds.{start}
use Rattle.squall_judge.specs.Merges.{AreCut}
use Rattle.squall_judge.proofs.Counts.{total}
use Rattle.squall_judge.proofs.judging.merged.Given as goal

abbrev pub invariant-loop-merge : goal.invariant-loop-merge
invariant-loop-merge l = AreCut (start l.fn.old l.fn.new l.fn.routers) l.fn.logs l.limits.items

abbrev pub decreases-loop-merge : goal.decreases-loop-merge
decreases-loop-merge l = total l.limits.items
