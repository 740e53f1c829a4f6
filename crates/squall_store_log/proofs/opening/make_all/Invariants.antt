use Rattle.std.proofs.Common.{length}
use Rattle.squall_store_log.specs.Steps.{IsOpened}
use Rattle.squall_store_log.proofs.opening.make_all.Given as goal

-- the calls of the records that were read lead to the store
abbrev pub invariant-loop-after : goal.invariant-loop-after
invariant-loop-after l = IsOpened l.fn.store l.log l.store l.rest

abbrev pub decreases-loop-after : goal.decreases-loop-after
decreases-loop-after l = length l.rest
