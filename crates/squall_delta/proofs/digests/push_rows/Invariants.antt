use Rattle.std.proofs.Common.{◌≡◌, ◌++◌, take, map}
use Rattle.squall_delta.specs.Hashes.{row_of}
use Rattle.squall_delta.proofs.digests.push_rows.Given as goal

abbrev pub invariant-loop-entry : goal.invariant-loop-entry
invariant-loop-entry l = l.rows.items ≡ l.fn.rows.items ++ map (row_of l.number) (take l.entry-index l.subs)
