use Rattle.squall_table.specs.Legs.{IsAmong}
use Rattle.squall_table.proofs.search.place_among.Given as goal

abbrev pub invariant-loop-size : goal.invariant-loop-size
invariant-loop-size l = IsAmong l.legs l.key l.base l.size

abbrev pub decreases-loop-size : goal.decreases-loop-size
decreases-loop-size l = l.size
