use Rattle.std.proofs.Common.{ap}
use Rattle.squall_cluster_inbox.specs.declared.knows.Knows.{Knows}
use Rattle.squall_cluster_inbox.proofs.Inboxes.{hires_ruled}
use Rattle.squall_cluster_inbox.proofs.taker.Taker.hire.Goals as goal

pub another-hand-requires-clause-rule : goal.another-hand-requires-clause-rule
another-hand-requires-clause-rule g c = hires_ruled g.K.Constants.allowed _ _ (ap (λ (v : Knows). v.owns) c.self.invariant.2)
