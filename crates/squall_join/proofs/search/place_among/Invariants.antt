use Rattle.squall_join.specs.Entries.{IsAmong}
use Rattle.squall_join.proofs.search.place_among.Given as goal

abbrev pub invariant-loop-size : goal.invariant-loop-size
invariant-loop-size g l = IsAmong g.K.Ord.cmp l.entries l.key l.from l.size

abbrev pub decreases-loop-size : goal.decreases-loop-size
decreases-loop-size g l = l.size
