use Rattle.std.proofs.Common.{◌≡◌, length}
use Rattle.squall_cluster.specs.Owners.{Fresh}
use Rattle.squall_cluster.proofs.cluster.hire_all.Given as goal

abbrev pub invariant-loop : goal.invariant-loop
invariant-loop g l = Fresh l.owner l.senders.items × (length l.senders.items ≡ l.counter) × (l.owner.inbox ≡ l.initial.owner.inbox)
