use Rattle.std.proofs.Common.{◌≡◌, drop, map}
use Rattle.std.specs.Arc.{arc_value}
use Rattle.squall_join.specs.Flats.{flat_map}
use Rattle.squall_delta.specs.Kept.{with_lacking_issues}
use Rattle.squall_delta.proofs.repairing.put_issues.Given as goal

abbrev pub invariant-loop-entry : goal.invariant-loop-entry
invariant-loop-entry l = with_lacking_issues l.digest l.delta (map (λ e. (e.0, flat_map arc_value e.1)) (drop l.entry-index l.issues)) ≡ with_lacking_issues l.digest l.fn.delta (map (λ e. (e.0, flat_map arc_value e.1)) l.issues)
