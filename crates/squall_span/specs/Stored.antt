-- The spans of a set, as they are kept (this project).
use Rattle.std.specs.Prelude.{List}
use Rattle.squall_span.specs.Spans.{Interval}
use Rattle.squall_span.specs.declared.set.Store.{Store}
use Rattle.squall_span.specs.declared.set.Store.TheVariants.{Few, Many}

-- the spans of one list, or those in blocks
abbrev pub spans_in : Store → List Interval
spans_in (Few spans) = spans.items
spans_in (Many blocks) = blocks.value
