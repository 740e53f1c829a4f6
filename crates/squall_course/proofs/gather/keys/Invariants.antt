use Rattle.std.proofs.Common.{◌≡◌, ℕ, take}
use Rattle.squall_span.specs.Spans.{has}
use Rattle.squall_course.specs.Moves.{in_moves}
use Rattle.squall_course.proofs.gather.keys.Given as goal

abbrev pub invariant-loop-one : goal.invariant-loop-one
invariant-loop-one l = (k : ℕ) → has l.keys k ≡ in_moves k (take l.one-index l.moves)
