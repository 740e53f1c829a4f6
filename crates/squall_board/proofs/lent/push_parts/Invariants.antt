use Rattle.std.proofs.Common.{◌≡◌, ◌++◌, take, map}
use Rattle.squall_board.specs.Listed.{cell_entry, cells_of_parts}
use Rattle.squall_board.proofs.lent.push_parts.Given as goal

abbrev pub invariant-loop-entry : goal.invariant-loop-entry
invariant-loop-entry l = map (λ c. cell_entry c.0 c.1.now) l.out.items ≡ map (λ c. cell_entry c.0 c.1.now) l.fn.out.items ++ cells_of_parts l.number l.sub (take l.entry-index l.parts)
