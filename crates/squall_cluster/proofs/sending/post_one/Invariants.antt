use Rattle.std.proofs.Common.{◌≡◌}
use Rattle.squall_cluster.proofs.sending.post_one.Given as goal

abbrev pub invariant-loop : goal.invariant-loop
invariant-loop g l =
    (goal.iterator-loop g).can_next l.iterator' × (goal.iterator-loop g).is_finite l.iterator'
    × (l.sender ≡ l.initial.sender) × (l.letter ≡ l.initial.letter)
