use Rattle.std.proofs.Common.{drop, sym}
use Rattle.squall_cluster_desk.specs.Hand.{letters}
use Rattle.squall_cluster_desk.specs.declared.shown.Shown.{Shown}
use Rattle.squall_cluster_desk.proofs.Desks.{rises}
use Rattle.squall_cluster_desk.proofs.Hands.{next_is, match_map}
use Rattle.squall_cluster_desk.proofs.publisher.show.Goals as goal

pub publish_as-requires : goal.publish_as-requires
publish_as-requires g c next is =
    let now = c.args.writer.desk.shown.value in
    let pend = drop c.args.writer.behind c.args.writer.log.items in
    let n = next_is g.K.Constants.allowed g.K.Constants.book now.router next.router now.prefix next.prefix pend c.requires.pending.1 c.requires.pending.0 is in
    rises g.K.Constants.allowed g.K.Constants.book g.K.Constants.first g.K.Constants.opening (λ (s : Shown). s.router) (λ (s : Shown). s.prefix) _ _ now next (letters pend, sym n.1) n.3 (λ h. n.0) (λ h. n.2 g.K.Constants.first g.K.Constants.opening h)

pub returns : goal.returns
returns g c =
    let now = c.args.writer.desk.shown.value in
    let pend = drop c.args.writer.behind c.args.writer.log.items in
    let after = c.publish_as.result.0.desk.shown.value in
    match_map c.publish_as.result.1 _ _ _ _ c.publish_as.ensures.values
    (λ u h. let n = next_is g.K.Constants.allowed g.K.Constants.book now.router after.router now.prefix after.prefix pend c.requires.pending.1 c.requires.pending.0 h.0 in (h.1, n.1, n.0, (n.2 g.K.Constants.first g.K.Constants.opening c.requires.all.0, n.3 c.requires.all.1)))
    (λ u h. (h.1, h.0))
