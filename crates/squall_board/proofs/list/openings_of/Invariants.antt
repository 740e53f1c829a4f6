use Rattle.std.proofs.Common.{◌≡◌, take}
use Rattle.squall_board.specs.Listed.{openings_of_counts}
use Rattle.squall_board.proofs.list.openings_of.Given as goal

abbrev pub invariant-loop-entry : goal.invariant-loop-entry
invariant-loop-entry l = l.openings.items ≡ openings_of_counts (take l.entry-index l.counts)
