use Rattle.std.proofs.Common.{◌≡◌, ◌≤◌, drop}
use Rattle.squall_c_values.proofs.spans.without_first.Given as goal

abbrev pub invariant-loop-passed : goal.invariant-loop-passed
invariant-loop-passed l = (l.spans ≡ drop l.passed l.fn.spans) × (l.passed ≤ l.fn.count)
