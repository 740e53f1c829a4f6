use Rattle.squall_key.specs.Search.{IsSoughtEnd}
use Rattle.squall_key.proofs.search.ended.Given as goal

abbrev pub invariant-loop-size : goal.invariant-loop-size
invariant-loop-size g l = IsSoughtEnd g.T.Ends.end l.items l.bound l.base l.size

abbrev pub decreases-loop-size : goal.decreases-loop-size
decreases-loop-size g l = l.size
