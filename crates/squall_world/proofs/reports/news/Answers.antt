use Rattle.std.proofs.Common.{ap, rules}
use Rattle.squall_world.specs.Nets.{news_to}
use Rattle.squall_world.proofs.Counting.{within_nodes, reports_there, step_taken, step_old, news_done}
use Rattle.squall_world.proofs.reports.news.Goals as goal
use Rattle.squall_world.proofs.reports.news.Goals.{then-from-to+in_ok-take_between, else-from-to}

pub loop-at-init : goal.loop-at-init
loop-at-init c = (within_nodes c.args.peers.now c.args.counts.now c.requires, ap (λ b. news_to b c.args.peers.now c.args.known.now c.args.counts.now) c.new-board.ensures.empty)

pub take_between-requires-clause-to : goal.take_between-requires-clause-to
take_between-requires-clause-to c = reports_there c.loop-at.at c.args.peers.now c.args.counts.now c.index-peers-at.result c.requires (search rules) c.index-peers-at.is

pub loop-at-preserved : goal.loop-at-preserved
loop-at-preserved c =
    elim c.if-from-to.branch [
      | then-from-to+in_ok-take_between w ↦ rw w.board-is (c.loop-at.invariant.0, step_taken c.loop-at.board _ _ c.loop-at.at c.count_at-from.result c.args.peers.now c.args.known.now c.args.counts.now w.index-peers-at.result (search rules) c.loop-at.invariant.0 w.index-peers-at.is c.count_at-from.ensures w.in_ok-take_between.ensures c.loop-at.invariant.1)
      | else-from-to w ↦ rw w.board-is (c.loop-at.invariant.0, step_old c.loop-at.board _ c.loop-at.at c.count_at-from.result c.args.peers.now c.args.known.now c.args.counts.now (search rules) c.loop-at.invariant.0 c.count_at-from.ensures (search rules) c.loop-at.invariant.1)
    ]

pub returns : goal.returns
returns c = news_done c.loop-at.board _ c.loop-at.at c.args.peers.now c.args.known.now c.args.counts.now (search rules) c.loop-at.invariant.1
