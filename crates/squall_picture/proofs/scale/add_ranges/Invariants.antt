use Rattle.std.proofs.Common.{◌≡◌, drop}
use Rattle.std.specs.List.Sorted.{IsNonDecreasing}
use Rattle.squall_picture.specs.Scale.{with_ranges}
use Rattle.squall_picture.proofs.scale.add_ranges.Given as goal

abbrev pub invariant-loop-range : goal.invariant-loop-range
invariant-loop-range l = record {
  so_far : with_ranges l.ticks.items (drop l.range-index l.ranges) ≡ with_ranges l.fn.ticks.items l.ranges;
  rise : IsNonDecreasing l.ticks.items;
}
