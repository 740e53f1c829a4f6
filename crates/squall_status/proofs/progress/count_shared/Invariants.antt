use Rattle.std.proofs.Common.{◌≡◌, ◌+◌}
use Rattle.squall_status.specs.Steps.{shared_count}
use Rattle.squall_status.proofs.progress.count_shared.Given as goal

abbrev pub invariant-loop-one : goal.invariant-loop-one
invariant-loop-one l = l.count + shared_count l.span l.one-iterator ≡ shared_count l.span l.fn.spans
