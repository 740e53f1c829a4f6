use Rattle.std.proofs.Common.{sym, subst}
use Rattle.squall_span.specs.Spans.{IsSet}
use Rattle.squall_span.specs.SpanLaws.{set-union}
use Rattle.squall_span.proofs.set.SpanSet.merged.Goals as goal

pub of_spans-requires : goal.of_spans-requires
of_spans-requires c = subst IsSet (sym c.in_ok-spans.ensures) (set-union c.spans.result c.spans-2.result (subst IsSet (sym c.spans.ensures.value) c.spans.ensures.set) (subst IsSet (sym c.spans-2.ensures.value) c.spans-2.ensures.set))
