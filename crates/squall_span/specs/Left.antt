-- The spans that a walk along a set has left (this project).
use Rattle.std.specs.Prelude.{List}
use Rattle.squall_span.specs.Spans.{Interval}
use Rattle.squall_span.specs.Many.{spans_of}
use Rattle.squall_span.specs.declared.spans.Rest.{Rest}
use Rattle.squall_span.specs.declared.spans.Rest.TheVariants.{Few, Many}

-- the spans of a list, or those of entries
abbrev pub spans_left : Rest → List Interval
spans_left (Few spans) = spans.now
spans_left (Many entries) = spans_of entries
