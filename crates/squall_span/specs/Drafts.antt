-- Sets of keys with an edit that may still be undone (this project).
use Rattle.std.specs.Prelude.{List}
use Rattle.squall_span.specs.Spans.{Interval}

-- the spans of a set before an edit, and those with it
pub record DraftValue : Type 0 where
  pub before : List Interval
  pub after : List Interval
