use Rattle.std.proofs.Common.{◌≡◌, ℕ, ◌<◌, ◌≤◌, Some, length}
use Rattle.std.specs.List.{slice_get}
use Rattle.squall_judge.specs.declared.log.Log.{Log}
use Rattle.squall_judge.proofs.judging.are_all.Given as goal

abbrev pub invariant-loop-at : goal.invariant-loop-at
invariant-loop-at l = (i n : ℕ) (log : Log) → i < l.at → slice_get l.fn.logs i ≡ Some log → slice_get l.fn.taken i ≡ Some n → length log.entries.items ≤ n
