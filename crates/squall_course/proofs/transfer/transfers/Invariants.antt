use Rattle.std.proofs.Common.{◌≡◌, ◌++◌, ◌≤◌, ℕ, drop}
use Rattle.squall_plan.specs.declared.range.PlanRange.{PlanRange}
use Rattle.squall_course.specs.Moves.{row, transfers}
use Rattle.squall_course.specs.Steps.{Follow}
use Rattle.squall_course.proofs.transfer.transfers.Given as goal

abbrev pub invariant-loop-range : goal.invariant-loop-range
invariant-loop-range l = record {
  adds : l.transfers.items ++ transfers (drop l.range-index l.ranges) l.others ≡ transfers l.ranges l.others;
  reach : (from : ℕ) × Follow from (drop l.range-index l.ranges) × ((later : PlanRange) → from ≤ later.span.lo → row later l.rest ≡ row later l.others);
  follow : Follow 0 l.rest;
}
