use Rattle.std.proofs.Common.{◌≡◌, ◌++◌, length}
use Rattle.std.specs.List.{AllByRecursion}
use Rattle.squall_store_log.specs.Records.{spell_rows, FitsRow}
use Rattle.squall_store_log.proofs.rows.rows_of.Given as goal

-- the bytes begin with the rows
abbrev pub invariant-loop-rest : goal.invariant-loop-rest
invariant-loop-rest l = AllByRecursion FitsRow l.rows × (l.bytes ≡ spell_rows l.rows ++ l.rest)

abbrev pub decreases-loop-rest : goal.decreases-loop-rest
decreases-loop-rest l = length l.rest
