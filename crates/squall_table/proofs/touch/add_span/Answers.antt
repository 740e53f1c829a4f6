use Rattle.std.proofs.Common.{List, ◌∙◌, sym, ap, subst}
use Rattle.std.specs.Prelude.{◌||◌, ◌&&◌}
use Rattle.std.proofs.lemmas.Result.{on_ok_weaker}
use Rattle.squall_span.specs.Spans.{has, span_has}
use Rattle.squall_course.specs.declared.moving.Move.{Move}
use Rattle.squall_table.specs.Legs.{MovesRise, FirstMove}
use Rattle.squall_table.specs.Touching.{brought}
use Rattle.squall_table.proofs.Touching.{take_rest, rise_drop, span_past}
use Rattle.squall_table.proofs.touch.add_span.Goals as goal

pub add_first-requires : goal.add_first-requires
add_first-requires c = subst (MovesRise 0) (sym (take_rest c.args.moves.now c.first_move-first.result)) (rise_drop 0 c.args.moves.now c.first_move-first.result c.requires)

pub returns : goal.returns
returns c =
    let at = c.first_move-first.result in
    let first : FirstMove c.args.moves.now c.args.span.lo at = subst (λ b. FirstMove c.args.moves.now b at) c.lo.ensures.value c.first_move-first.ensures in
    on_ok_weaker c.add_first.result (λ keys k. keys k ∙ ap (λ (ms : List Move). has c.args.out.now k || (span_has c.args.span k && brought c.args.sub c.args.part ms k)) (take_rest c.args.moves.now at) ∙ ap (λ b. has c.args.out.now k || b) (span_past c.args.sub c.args.part k c.args.span c.args.moves.now at first)) c.add_first.ensures
