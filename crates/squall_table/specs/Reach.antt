-- How far a set of keys reaches: what a patch of a table takes up (this project).
use Rattle.std.specs.Prelude.{ℕ, ◌+◌, nat_le, min, max, Bool, List}
use Rattle.std.specs.List.{list_any, count_by}
use Rattle.squall_span.specs.Spans.{Interval}
use Rattle.squall_plan.specs.declared.range.PlanRange.{PlanRange}
use Rattle.squall_course.specs.declared.moving.Move.{Move}
use Rattle.squall_course.specs.Subplans.{shares}

-- the span shares a key with the set
abbrev pub is_shared : List Interval → Interval → Bool
is_shared set s = list_any (λ t. shares t s) set

-- two spans share a key, or one begins where the other ends
abbrev pub is_beside : Interval → Interval → Bool
is_beside a b = nat_le (max a.lo b.lo) (min a.hi b.hi)

-- the span shares a key with the set, or borders on a span of it
abbrev pub is_near : List Interval → Interval → Bool
is_near set s = list_any (λ t. is_beside t s) set

-- how many moves share a key with the set
abbrev pub moves_in : List Interval → List Move → ℕ
moves_in set ms = count_by (λ m. is_shared set m.span) ms

-- how many legs share a key with the set or border on a span of it
abbrev pub legs_near : List Interval → List PlanRange → ℕ
legs_near set ls = count_by (λ l. is_near set l.span) ls

-- the moves that share a key with the set, and the legs that share one or border on a span of it
abbrev pub reach : List Interval → List Move → List PlanRange → ℕ
reach set ms ls = moves_in set ms + legs_near set ls
