use Rattle.squall_cluster_inbox.proofs.Inboxes.{begins_ruled}
use Rattle.squall_cluster_inbox.proofs.taker.Taker.open.Goals as goal

pub ruled-requires-clause-rule : goal.ruled-requires-clause-rule
ruled-requires-clause-rule g c = begins_ruled g.K.Constants.allowed
