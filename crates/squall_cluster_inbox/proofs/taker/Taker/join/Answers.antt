use Rattle.std.proofs.Common.{ap}
use Rattle.squall_cluster_inbox.specs.declared.knows.Knows.{Knows}
use Rattle.squall_cluster_inbox.proofs.Inboxes.{retires_ruled}
use Rattle.squall_cluster_inbox.proofs.taker.Taker.join.Goals as goal

pub absorb-requires-clause-rule : goal.absorb-requires-clause-rule
absorb-requires-clause-rule g c = retires_ruled g.K.Constants.allowed _ _ _ _ (ap (λ (v : Knows). v.owns) c.self.invariant.2) (ap (λ (v : Knows). v.sends) c.spent.invariant.1)
