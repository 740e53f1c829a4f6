use Rattle.std.proofs.Common.{◌≡◌, ◌++◌, map, drop}
use Rattle.serde_json.specs.View.{view}
use Rattle.squall_plan.specs.PlanText.{json_of_range}
use Rattle.squall_plan.proofs.text.range_values.Given as goal

abbrev pub invariant-loop-range : goal.invariant-loop-range
invariant-loop-range l = map view l.values.items ++ map json_of_range (drop l.range-index l.ranges) ≡ map json_of_range l.ranges
