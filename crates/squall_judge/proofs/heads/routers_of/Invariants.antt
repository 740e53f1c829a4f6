use Rattle.squall_judge.proofs.Nodes.{AreCounted}
use Rattle.squall_judge.proofs.heads.routers_of.Given as goal

abbrev pub invariant-loop-at : goal.invariant-loop-at
invariant-loop-at l = AreCounted l.fn.logs l.at l.count
