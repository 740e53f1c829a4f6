use Rattle.std.proofs.Common.{◌≡◌, ◌++◌, take}
use Rattle.squall_join.proofs.merge.push_copies.Given as goal

abbrev pub invariant-loop-entry : goal.invariant-loop-entry
invariant-loop-entry g l = l.out.items ≡ l.fn.out.items ++ take l.entry-index l.entries
