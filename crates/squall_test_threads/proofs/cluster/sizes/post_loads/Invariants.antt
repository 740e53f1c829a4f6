use Rattle.std.proofs.Common.{◌≡◌}
use Rattle.squall_test_threads.proofs.cluster.sizes.post_loads.Given as goal

abbrev pub invariant-loop : goal.invariant-loop
invariant-loop g l = l.sender.inbox ≡ l.initial.sender.inbox
