use Rattle.std.proofs.Common.{◌++◌, ap, ◌∙◌, option_to_list}
use Rattle.squall_span.specs.Many.{entries_of, head_below, tail_from, cut_start, cut_end}
use Rattle.std.specs.Prelude.{slice_get}
use Rattle.squall_blocks.specs.Entries.{beyond}
use Rattle.squall_span.proofs.Changing.{removed_is}
use Rattle.squall_span.proofs.changes.removal.Goals as goal

pub returns-clause-value : goal.returns-clause-value
returns-clause-value c =
    let es = c.args.there.now in
    let head = c.head_below-head.ensures ∙ ap (λ n. head_below n (slice_get (beyond n es) 0)) c.lo.ensures.value in
    let tail = c.tail_from-tail.ensures ∙ ap (λ n. tail_from n (slice_get (beyond n es) 0)) c.hi.ensures.value in
    let from = c.cut_start-from.ensures ∙ ap (λ n. cut_start n c.head_below-head.result) c.lo-2.ensures.value in
    let to = c.cut_end-to.ensures ∙ ap (λ n. cut_end n c.tail_from-tail.result) c.hi-2.ensures.value in
    let fresh = c.in_ok-fresh.ensures ∙ (λ i. entries_of (option_to_list (c.as_ref.ensures.value i) ++ option_to_list (c.as_ref-2.ensures.value i))) in
    removed_is c.args.span es c.in_ok-fresh.fresh c.cut_start-from.result c.cut_end-to.result c.head_below-head.result c.tail_from-tail.result c.requires.0 head tail from to fresh
