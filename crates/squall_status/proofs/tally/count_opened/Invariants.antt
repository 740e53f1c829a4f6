use Rattle.std.proofs.Common.{◌≡◌, take}
use Rattle.std.specs.List.{sum_by}
use Rattle.squall_status.specs.Tallies.{at_most_64_bits, sub_plans_of}
use Rattle.squall_status.proofs.tally.count_opened.Given as goal

abbrev pub invariant-loop-opening : goal.invariant-loop-opening
invariant-loop-opening l = l.opened ≡ at_most_64_bits (sum_by sub_plans_of (take l.opening-index l.openings))
