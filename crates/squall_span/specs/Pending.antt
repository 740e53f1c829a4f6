-- Edits of a set that are kept or undone (this project).
use Rattle.std.specs.Prelude.{ℕ, ◌+◌, ◌≤◌, List, length, vec_len, vec_capacity}
use Rattle.squall_span.specs.Spans.{Interval, IsSet, insert_span, union, without_span}
use Rattle.squall_span.specs.Many.{spans_of}
use Rattle.squall_span.specs.declared.draft.Edit.{Edit}
use Rattle.squall_span.specs.declared.draft.Edit.TheVariants.{Insert, InsertAll, Remove}
use Rattle.squall_span.specs.declared.draft.Pending.{Pending}
use Rattle.squall_span.specs.declared.draft.Pending.TheVariants.{Few, Many, Whole}

-- how many spans an edit adds at most
abbrev pub most_added : Edit → ℕ
most_added (Insert span) = 1
most_added (InsertAll spans) = length spans.items
most_added (Remove span) = 1

-- the set after an edit
abbrev pub edited : Edit → List Interval → List Interval
edited (Insert span) set = insert_span span set
edited (InsertAll spans) set = union set spans.items
edited (Remove span) set = without_span span set

-- the set before the edit
abbrev pub before : Pending → List Interval
before (Few spans edit) = spans.items
before (Many room draft) = spans_of draft.0
before (Whole old new) = old

-- the set with the edit
abbrev pub after : Pending → List Interval
after (Few spans edit) = edited edit spans.items
after (Many room draft) = spans_of draft.1
after (Whole old new) = new

-- both are sets, and a list has room for the edit
abbrev pub IsPending : Pending → Type 0
IsPending (Few spans edit) = IsSet spans.items × (vec_len spans + most_added edit ≤ vec_capacity spans)
IsPending (Many room draft) = IsSet (spans_of draft.0) × IsSet (spans_of draft.1)
IsPending (Whole old new) = IsSet old × IsSet new
