use Rattle.std.proofs.Common.{sym, ap, ◌∙◌}
use Rattle.std.specs.Prelude.{◌||◌, ◌&&◌}
use Rattle.squall_span.specs.Spans.{has, span_has}
use Rattle.squall_table.specs.Touching.{brought}
use Rattle.squall_table.proofs.Built.{rising}
use Rattle.squall_table.proofs.Reported.{load_touches}
use Rattle.squall_table.proofs.touch.touched_by_load.Goals as goal

pub add_span-requires : goal.add_span-requires
add_span-requires c = rising c.args.course.now.old c.args.course.now.new c.moves.result.now c.moves.ensures.meaning

pub returns : goal.returns
returns c k =
    c.in_ok-add_span.ensures k
    ∙ ap (λ s. has s k || (span_has c.args.span k && brought c.sub.result c.get.result c.moves.result.now k)) c.empty-set.ensures
    ∙ (λ i. span_has c.args.span k && brought (c.sub.ensures.value i) ((c.get.ensures.value ∙ c.part.ensures.value) i) c.moves.result.now k)
    ∙ load_touches c.args.course.now c.moves.result.now c.args.cell c.args.span k c.moves.ensures.meaning (sym c.number.ensures.value ∙ c.if-number.false ∙ c.number-2.ensures.value)
