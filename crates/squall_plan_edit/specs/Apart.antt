-- The ranges that lead from one plan to another (this project).
use Rattle.std.specs.Prelude.{List, map}
use Rattle.squall_plan.specs.declared.range.PlanRange.{PlanRange}
use Rattle.squall_course.specs.declared.moving.Move.{Move}
use Rattle.squall_course.specs.Moves.{moves_of}

-- the keys of a move, and the partition to which they go
abbrev pub range_of : Move → PlanRange
range_of m = record { span = m.span; part = m.dest }

-- the ranges of keys that go to other partitions between two plans, by rising key, each with the partition of the new plan
abbrev pub apart : List PlanRange → List PlanRange → List PlanRange
apart old new = map range_of (moves_of old new)
