use Rattle.std.proofs.Common.{subst, arith}
use Rattle.squall_judge.specs.Merges.{IsBlocked, IsNext, world_of}
use Rattle.squall_judge.proofs.Nodes.{below}
use Rattle.squall_judge.proofs.Merges.{same_taken, same_wrong, same_both, same_blocked}
use Rattle.squall_judge.proofs.merge.Merge.round.Goals as goal

pub returns-in-Taken : goal.returns-in-Taken
returns-in-Taken c =
    same_taken c.args.logs.now c.args.limits.now c.args.self.now c.loop-at.self c.next.new.self c.loop-at.at c.loop-at.invariant.same
    (subst (λ t. IsNext c.args.logs.now c.args.limits.now c.loop-at.self c.loop-at.at t c.next.new.self) c.in-Taken.is c.in_ok-next.ensures)

pub returns-in-Never : goal.returns-in-Never
returns-in-Never c =
    same_wrong c.args.logs.now c.args.limits.now c.args.self.now c.loop-at.self c.next.new.self c.loop-at.at c.loop-at.invariant.same
    (subst (λ t. IsNext c.args.logs.now c.args.limits.now c.loop-at.self c.loop-at.at t c.next.new.self) c.in-Never.is c.in_ok-next.ensures)

pub loop-at-preserved : goal.loop-at-preserved
loop-at-preserved c =
    let waits = subst (λ t. IsNext c.args.logs.now c.args.limits.now c.loop-at.self c.loop-at.at t c.next.new.self) c.in-Waits.is c.in_ok-next.ensures in
    record {
      same = same_both c.args.self.now c.loop-at.self c.next.new.self c.loop-at.invariant.same waits.0;
      blocked = below c.loop-at.at (λ i. IsBlocked c.args.logs.now c.args.limits.now c.args.self.now.taken.items (world_of c.args.self.now) i) c.loop-at.invariant.blocked
          (same_blocked c.args.logs.now c.args.limits.now c.args.self.now c.loop-at.self c.loop-at.at c.loop-at.invariant.same waits.1);
    }

pub returns : goal.returns
returns c = (c.loop-at.invariant.same, λ i low. c.loop-at.invariant.blocked i (omega (arith, low, c.loop-at-test.false)))
