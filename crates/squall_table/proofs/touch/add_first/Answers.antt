use Rattle.std.proofs.Common.{◌≤◌, ◌∙◌, sym, ap, subst, arith}
use Rattle.std.specs.Prelude.{◌||◌}
use Rattle.squall_key.specs.Lemmas.{le_from_cmp}
use Rattle.squall_span.specs.Spans.{has}
use Rattle.squall_course.specs.declared.moving.Move.{Move}
use Rattle.squall_table.proofs.Touching.{span_cut}
use Rattle.squall_table.proofs.touch.add_first.Goals as goal

pub returns-then-le : goal.returns-then-le
returns-then-le c k =
    let x : Move = c.one-item.result in
    let before : c.hi.result ≤ c.lo.result = le_from_cmp c.hi.result c.lo.result (sym c.le.ensures ∙ c.if-le.true) in
    let le : c.args.span.hi ≤ x.span.lo = omega (arith, c.hi.ensures.value, c.lo.ensures.value, before) in
    c.loop-one.invariant k ∙ ap (λ b. has c.args.out.now k || b) (span_cut c.args.sub c.args.part 0 k c.args.span c.args.moves.now c.loop-one.one-index x c.requires c.loop-one-test.true (subst (λ (m : Move). c.args.span.hi ≤ m.span.lo) c.one-item.is le))
