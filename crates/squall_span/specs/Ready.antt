-- Sets of keys with room for more spans (this project).
use Rattle.std.specs.Prelude.{ℕ, List}
use Rattle.squall_span.specs.Spans.{Interval}

-- the spans of a set, and how many more fit without an allocation
pub record ReadyValue : Type 0 where
  pub set : List Interval
  pub room : ℕ
