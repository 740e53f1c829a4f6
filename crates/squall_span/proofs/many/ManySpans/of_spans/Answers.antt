use Rattle.std.proofs.Common.{sym, ap, subst, ◌∙◌}
use Rattle.squall_blocks.specs.Entries.{RiseFrom}
use Rattle.squall_span.specs.Spans.{IsSet}
use Rattle.squall_span.specs.Many.{spans_of}
use Rattle.squall_span.proofs.Changing.{set_rises, spans_entries}
use Rattle.squall_span.proofs.many.ManySpans.of_spans.Goals as goal

pub of-requires : goal.of-requires
of-requires c = subst (RiseFrom 0) (sym c.in_ok-entries.ensures) (set_rises c.args.spans.now c.requires.0)

pub invariant_of-result : goal.invariant_of-result
invariant_of-result c = subst IsSet (sym (ap spans_of (c.in_ok-ends.ensures ∙ c.in_ok-entries.ensures) ∙ spans_entries c.args.spans.now)) c.requires

pub returns : goal.returns
returns c = ap spans_of (c.in_ok-ends.ensures ∙ c.in_ok-entries.ensures) ∙ spans_entries c.args.spans.now
