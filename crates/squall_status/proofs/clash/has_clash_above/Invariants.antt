use Rattle.std.proofs.Common.{◌≡◌, drop, map}
use Rattle.std.specs.Arc.{arc_value}
use Rattle.squall_join.specs.Flats.{flat_map}
use Rattle.squall_status.specs.Tallies.{has_clash_above}
use Rattle.squall_status.proofs.clash.has_clash_above.Given as goal

abbrev pub invariant-loop-entry : goal.invariant-loop-entry
invariant-loop-entry l = has_clash_above l.low (map (λ e. (e.0, flat_map arc_value e.1)) (drop l.entry-index l.entries)) ≡ has_clash_above l.low (map (λ e. (e.0, flat_map arc_value e.1)) l.entries)
