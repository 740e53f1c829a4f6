-- The spans of a set in one list (this project).
use Rattle.std.specs.Prelude.{List}
use Rattle.squall_span.specs.Spans.{Interval}
use Rattle.squall_span.specs.declared.list.Held.{Held}
use Rattle.squall_span.specs.declared.list.Held.TheVariants.{Lent, Own}

-- the spans of a list that is lent, or of one that is kept
abbrev pub spans_held : Held → List Interval
spans_held (Lent spans) = spans.now
spans_held (Own spans) = spans.items
