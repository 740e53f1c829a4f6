use Rattle.squall_leader.proofs.Kept.{opened_by}
use Rattle.squall_leader.proofs.leader.Leader.open_next.Goals as goal

pub invariant_of-self-2 : goal.invariant_of-self-2
invariant_of-self-2 c = opened_by c.args.self.now _ c.in_ok-report.report c.take.new.self c.self.view_is c.in_ok-report.ensures c.self.invariant c.known.ensures.board
