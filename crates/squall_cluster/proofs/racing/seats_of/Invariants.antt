use Rattle.std.proofs.Common.{◌≡◌, length}
use Rattle.squall_cluster.proofs.racing.seats_of.Given as goal

abbrev pub invariant-loop : goal.invariant-loop
invariant-loop g l = length l.seats.items ≡ l.counter
