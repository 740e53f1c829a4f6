use Rattle.std.proofs.Common.{◌≡◌, ◌++◌, drop}
use Rattle.std.specs.List.{AllByRecursion}
use Rattle.squall_store_log.specs.Records.{spell_rows, FitsRow}
use Rattle.squall_store_log.proofs.writing.write_rows.Given as goal

-- what is left to write makes the whole
abbrev pub invariant-loop-row : goal.invariant-loop-row
invariant-loop-row l = (l.out.items ++ spell_rows (drop l.row-index l.rows) ≡ l.fn.out.items ++ spell_rows l.rows)
    × (AllByRecursion FitsRow (drop l.row-index l.rows) → AllByRecursion FitsRow l.rows)
