use Rattle.std.proofs.Common.{OnOk, subst}
use Rattle.squall_board.specs.Takes.{TakesBoard}
use Rattle.squall_leader.specs.Leaders.{LeaderValue}
use Rattle.squall_leader.proofs.Kept.{with_board}
use Rattle.squall_leader.proofs.leader.Leader.absorb.Goals as goal

pub invariant_of-self : goal.invariant_of-self
invariant_of-self c = with_board _ c.merge-merged.new.self c.self.invariant c.known.ensures.board

pub returns-clause-takes : goal.returns-clause-takes
returns-clause-takes c = subst (λ (l : LeaderValue). OnOk c.merge-merged.result (TakesBoard l.board c.args.delta.now c.merge-merged.new.self)) c.self.view_is c.merge-merged.ensures.takes
