use Rattle.std.proofs.Common.{subst}
use Rattle.squall_judge.specs.Merges.{IsRound, world_of}
use Rattle.squall_judge.proofs.Merges.{taken_ready, taken_goes, fewer_left, goes_both, over, wrong}
use Rattle.squall_judge.proofs.merge.Merge.run.Goals as goal

pub loop-at-smaller : goal.loop-at-smaller
loop-at-smaller c =
    let moved = subst (λ r. IsRound c.args.logs.now c.args.limits.now c.loop-at.self r c.go_on.new.self) c.in-Moved.is c.in_ok-at.ensures in
    fewer_left c.args.logs.now c.args.limits.now c.loop-at.self c.go_on.new.self c.in-Moved.at moved c.requires.limits c.loop-at.invariant.ready

pub loop-at-preserved : goal.loop-at-preserved
loop-at-preserved c =
    let moved = subst (λ r. IsRound c.args.logs.now c.args.limits.now c.loop-at.self r c.go_on.new.self) c.in-Moved.is c.in_ok-at.ensures in
    record {
      ready = taken_ready c.args.logs.now c.args.limits.now c.loop-at.self c.go_on.new.self c.in-Moved.at moved c.loop-at.invariant.ready;
      goes = goes_both c.args.logs.now (world_of c.args.self.now) (world_of c.loop-at.self) (world_of c.go_on.new.self) c.args.self.now.taken.items c.loop-at.self.taken.items c.go_on.new.self.taken.items c.loop-at.invariant.goes
          (taken_goes c.args.logs.now c.args.limits.now c.loop-at.self c.go_on.new.self c.in-Moved.at moved c.what_comes_happens.ensures.line c.requires.apart);
    }

pub returns-in-Stuck : goal.returns-in-Stuck
returns-in-Stuck c =
    let stuck = subst (λ r. IsRound c.args.logs.now c.args.limits.now c.loop-at.self r c.go_on.new.self) c.in-Stuck.is c.in_ok-at.ensures in
    over c.args.logs.now c.args.limits.now c.args.self.now c.loop-at.self c.go_on.new.self c.loop-at.invariant.goes c.loop-at.invariant.ready stuck.0 stuck.1

pub returns-in-Never : goal.returns-in-Never
returns-in-Never c =
    wrong c.args.logs.now c.args.limits.now c.args.self.now c.loop-at.self c.go_on.new.self c.in-Never.at c.loop-at.invariant.goes
    (subst (λ r. IsRound c.args.logs.now c.args.limits.now c.loop-at.self r c.go_on.new.self) c.in-Never.is c.in_ok-at.ensures)
