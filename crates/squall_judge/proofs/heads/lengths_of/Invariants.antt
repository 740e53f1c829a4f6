use Rattle.std.proofs.Common.{◌≡◌, map, take, length}
use Rattle.squall_judge.specs.declared.log.Log.{Log}
use Rattle.squall_judge.proofs.heads.lengths_of.Given as goal

abbrev pub invariant-loop-log : goal.invariant-loop-log
invariant-loop-log l = l.lengths.items ≡ map (λ (log : Log). length log.entries.items) (take l.log-index l.fn.logs)
