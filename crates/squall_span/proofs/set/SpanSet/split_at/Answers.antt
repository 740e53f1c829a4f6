use Rattle.std.proofs.Common.{List, ap, ◌∙◌}
use Rattle.squall_span.specs.Spans.{Interval, keys_below, keys_from}
use Rattle.squall_span.proofs.Made.{made_below, made_from, below_set, from_set}
use Rattle.squall_span.proofs.set.SpanSet.split_at.Goals as goal

pub of_spans-requires : goal.of_spans-requires
of_spans-requires c = below_set c.args.bound c.spans.result.now _ c.spans.ensures.set c.in_ok-below.ensures.below_canonical c.in_ok-below.ensures.below_keys

pub of_spans-requires-2 : goal.of_spans-requires-2
of_spans-requires-2 c = from_set c.args.bound c.spans.result.now _ c.spans.ensures.set c.in_ok-below.ensures.others_canonical c.in_ok-below.ensures.others_keys

pub returns-clause-first : goal.returns-clause-first
returns-clause-first c =
    c.of_spans.ensures
    ∙ made_below c.args.bound c.spans.result.now _ c.spans.ensures.set c.in_ok-below.ensures.below_canonical c.in_ok-below.ensures.below_keys
    ∙ ap (λ (l : List Interval). keys_below c.args.bound l) (c.spans.ensures.value ∙ c.in_ok-list.ensures)

pub returns-clause-second : goal.returns-clause-second
returns-clause-second c =
    c.of_spans-2.ensures
    ∙ made_from c.args.bound c.spans.result.now _ c.spans.ensures.set c.in_ok-below.ensures.others_canonical c.in_ok-below.ensures.others_keys
    ∙ ap (λ (l : List Interval). keys_from c.args.bound l) (c.spans.ensures.value ∙ c.in_ok-list.ensures)
