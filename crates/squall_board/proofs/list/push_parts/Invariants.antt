use Rattle.std.proofs.Common.{◌≡◌, ◌++◌, take}
use Rattle.squall_board.specs.Listed.{cells_of_parts}
use Rattle.squall_board.proofs.list.push_parts.Given as goal

abbrev pub invariant-loop-entry : goal.invariant-loop-entry
invariant-loop-entry l = l.out.items ≡ l.fn.out.items ++ cells_of_parts l.number l.sub (take l.entry-index l.parts)
