use Rattle.std.proofs.Common.{◌≡◌, ◌++◌, take}
use Rattle.squall_board.specs.Listed.{cells_of_numbers}
use Rattle.squall_board.proofs.list.push_numbers.Given as goal

abbrev pub invariant-loop-entry : goal.invariant-loop-entry
invariant-loop-entry l = l.out.items ≡ l.fn.out.items ++ cells_of_numbers (take l.entry-index l.numbers)
