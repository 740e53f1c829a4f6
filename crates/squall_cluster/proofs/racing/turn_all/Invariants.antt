use Rattle.std.proofs.Common.{◌≡◌}
use Rattle.squall_cluster.proofs.racing.turn_all.Given as goal

abbrev pub invariant-loop : goal.invariant-loop
invariant-loop g l =
    (goal.iterator-loop g).can_next l.iterator' × (goal.iterator-loop g).is_finite l.iterator'
    × (l.owner.inbox ≡ l.initial.owner.inbox) × (l.owner.made ≡ l.initial.owner.made) × (l.owner.vouched ≡ l.initial.owner.vouched)
