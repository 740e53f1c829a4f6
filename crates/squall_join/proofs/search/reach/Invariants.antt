use Rattle.std.proofs.Common.{◌≤◌, ◌-◌, length}
use Rattle.squall_join.specs.Entries.{IsFrom}
use Rattle.squall_join.proofs.search.reach.Given as goal

abbrev pub invariant-loop-low : goal.invariant-loop-low
invariant-loop-low g l = record {
  onward : l.from ≤ l.low;
  reached : IsFrom g.K.Ord.cmp l.entries l.key l.low;
}

abbrev pub decreases-loop-low : goal.decreases-loop-low
decreases-loop-low g l = length l.entries - l.low
