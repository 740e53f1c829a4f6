use Rattle.std.proofs.Common.{◌≡◌, ◌++◌, ◌≤◌, drop}
use Rattle.squall_plan.specs.declared.range.PlanRange.{PlanRange}
use Rattle.squall_course.specs.Moves.{row}
use Rattle.squall_course.specs.Steps.{Follow}
use Rattle.squall_course.proofs.transfer.push_row.Given as goal

abbrev pub invariant-loop-index : goal.invariant-loop-index
invariant-loop-index l = record {
  adds : l.transfers.items ++ row l.range (drop l.index l.others) ≡ l.initial.transfers.items ++ row l.range l.others;
  later : (later : PlanRange) → l.range.span.hi ≤ later.span.lo → row later (drop l.index l.others) ≡ row later l.others;
  follow : Follow 0 (drop l.index l.others);
}
