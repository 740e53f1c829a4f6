use Rattle.std.proofs.Common.{take}
use Rattle.squall_cluster.specs.Race.{GrownTo}
use Rattle.squall_cluster.proofs.reading.route_all.Given as goal

abbrev pub invariant-loop-key : goal.invariant-loop-key
invariant-loop-key g l = GrownTo g.K.Constants.allowed g.K.Constants.first g.K.Constants.opening l.initial.seat.known (take l.key-index l.keys) l.routes.items l.seat.known
