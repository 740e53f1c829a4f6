use Rattle.std.proofs.Common.{◌≡◌, take, map}
use Rattle.std.specs.List.{sum_by}
use Rattle.squall_board.specs.Listed.{cell_entry}
use Rattle.squall_status.specs.Tallies.{at_most_64_bits, spans_of}
use Rattle.squall_status.proofs.tally.count_spans.Given as goal

abbrev pub invariant-loop-entry : goal.invariant-loop-entry
invariant-loop-entry l = l.spans ≡ at_most_64_bits (sum_by spans_of (map (λ c. cell_entry c.0 c.1.now) (take l.entry-index l.cells)))
