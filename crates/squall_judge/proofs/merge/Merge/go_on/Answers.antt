use Rattle.std.proofs.Common.{subst}
use Rattle.std.proofs.lemmas.Result.{IfOk-weaker}
use Rattle.squall_judge.specs.Merges.{IsNext, IsRound}
use Rattle.squall_judge.proofs.Merges.{same_ready, same_round}
use Rattle.squall_judge.proofs.merge.Merge.go_on.Goals as goal

pub returns-in-Taken : goal.returns-in-Taken
returns-in-Taken c = subst (λ t. IsNext c.args.logs.now c.args.limits.now c.args.self.now c.args.at t c.next.new.self) c.in-Taken.is c.in_ok-next.ensures

pub returns-in-Waits : goal.returns-in-Waits
returns-in-Waits c =
    let waits = subst (λ t. IsNext c.args.logs.now c.args.limits.now c.args.self.now c.args.at t c.next.new.self) c.in-Waits.is c.in_ok-next.ensures in
    IfOk-weaker c.round-in-Waits.result (λ round. IsRound c.args.logs.now c.args.limits.now c.next.new.self round c.round-in-Waits.new.self)
    (λ round. IsRound c.args.logs.now c.args.limits.now c.args.self.now round c.round-in-Waits.new.self)
    (λ round h. same_round c.args.logs.now c.args.limits.now c.args.self.now c.next.new.self c.round-in-Waits.new.self round waits.0 h) c.round-in-Waits.ensures

pub returns-in-Never : goal.returns-in-Never
returns-in-Never c = subst (λ t. IsNext c.args.logs.now c.args.limits.now c.args.self.now c.args.at t c.next.new.self) c.in-Never.is c.in_ok-next.ensures
