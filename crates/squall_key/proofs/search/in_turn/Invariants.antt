use Rattle.squall_key.specs.Search.{IsSought, end_at}
use Rattle.squall_key.proofs.search.in_turn.Given as goal

abbrev pub invariant-loop-at : goal.invariant-loop-at
invariant-loop-at g l = IsSought (end_at g.T.Ends.end l.items) l.at l.bound l.place 0
