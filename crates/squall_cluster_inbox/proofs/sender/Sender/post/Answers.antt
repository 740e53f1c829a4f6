use Rattle.std.proofs.Common.{ap, sym}
use Rattle.squall_cluster_inbox.specs.declared.knows.Knows.{Knows}
use Rattle.squall_cluster_inbox.proofs.Inboxes.{posts_ruled, awaits_ruled}
use Rattle.squall_cluster_inbox.proofs.sender.Sender.post.Goals as goal

pub push_as-requires-clause-rule : goal.push_as-requires-clause-rule
push_as-requires-clause-rule g c =
    let is = c.self.invariant.2 in
    let sends = ap (λ (v : Knows). v.sends) is in
    (posts_ruled g.K.Constants.allowed _ _ _ _ sends (sym (ap (λ (v : Knows). v.from) is)) (c.known.ensures, c.requires), awaits_ruled g.K.Constants.allowed _ _ sends)
