use Rattle.std.proofs.Common.{◌≡◌, ◌<◌, max, min, get_or, sym, ap, ◌∙◌, subst, arith}
use Rattle.std.proofs.lemmas.List.{get_or_default}
use Rattle.squall_course.specs.declared.moving.Move.{Move}
use Rattle.squall_span.proofs.Compared.{max_is, min_is}
use Rattle.squall_table.specs.Legs.{said}
use Rattle.squall_table.proofs.Moving.{walk_none, walk_more, walk_done, end_is}
use Rattle.squall_table.proofs.routes.push_routes.Goals as goal
use Rattle.squall_table.proofs.routes.push_routes.Goals.{then-loop-at-test+else-rank, else-loop-at-test}

pub loop-at-init : goal.loop-at-init
loop-at-init c = walk_none c.args.routes.legs.now c.args.routes.moves.now (c.args.routes.number, said c.args.routes.heard) c.args.lo c.args.hi c.args.first _ c.requires.order (record { within = c.requires.first.within; before = c.requires.first.before; after = c.requires.first.after })

pub push_move-requires : goal.push_move-requires
push_move-requires c =
    let x : Move = c.index-moves-at-in-loop-at.result in
    let ends : c.loop-at.reach < x.span.hi = subst (λ (m : Move). c.loop-at.reach < m.span.hi) (sym c.index-moves-at-in-loop-at.is) (c.loop-at.invariant.ahead x c.loop-at-test.true) in
    let same : get_or c.args.routes.moves.now c.loop-at.at c.index-moves-at.result ≡ x = get_or_default c.args.routes.moves.now c.loop-at.at c.index-moves-at.result x c.loop-at-test.true ∙ sym c.index-moves-at-in-loop-at.is in
    let low : c.lo.result ≡ x.span.lo = c.lo.ensures.value ∙ ap (λ (m : Move). m.span.lo) same in
    omega (arith, c.loop-at.invariant.high, ends, low, c.rank.ensures.value, c.rank-in-loop-at.ensures.value, c.if-rank.true, c.lo-in-loop-at.ensures.value, c.lo-in-loop-at.ensures.below, c.hi.ensures.value, (c.max-start.ensures ∙ max_is c.lo-in-loop-at.result c.loop-at.reach), (c.min-reach.ensures ∙ min_is c.hi.result c.args.hi))

pub loop-at-preserved : goal.loop-at-preserved
loop-at-preserved c =
    let x : Move = c.index-moves-at-in-loop-at.result in
    let same : get_or c.args.routes.moves.now c.loop-at.at c.index-moves-at.result ≡ x = get_or_default c.args.routes.moves.now c.loop-at.at c.index-moves-at.result x c.loop-at-test.true ∙ sym c.index-moves-at-in-loop-at.is in
    let low : c.lo.result ≡ x.span.lo = c.lo.ensures.value ∙ ap (λ (m : Move). m.span.lo) same in
    let below : x.span.lo < c.args.hi = omega (arith, low, c.rank.ensures.value, c.rank-in-loop-at.ensures.value, c.if-rank.true) in
    walk_more c.args.routes.legs.now c.args.routes.moves.now (c.args.routes.number, said c.args.routes.heard) c.args.lo c.loop-at.reach c.args.hi c.args.first c.loop-at.at x x c.max-start.result c.min-reach.result _ _ _ _ c.requires.rise c.loop-at-test.true c.index-moves-at-in-loop-at.is below
    ((c.max-start.ensures ∙ max_is c.lo-in-loop-at.result c.loop-at.reach) ∙ ap (λ n. max n c.loop-at.reach) c.lo-in-loop-at.ensures.value) ((c.min-reach.ensures ∙ min_is c.hi.result c.args.hi) ∙ ap (λ n. min n c.args.hi) c.hi.ensures.value) c.loop-at.invariant c.in_ok-copy_legs.ensures c.in_ok-push_move.ensures

pub returns-clause-grows : goal.returns-clause-grows
returns-clause-grows c = walk_done c.args.routes.legs.now c.args.routes.moves.now (c.args.routes.number, said c.args.routes.heard) c.args.lo c.loop-at.reach c.args.hi c.args.first c.loop-at.at _ _ _ c.requires.rise (λ d lt. elim c.loop-at-test.branch [
  | then-loop-at-test+else-rank w ↦
      let low : w.lo.result ≡ (get_or c.args.routes.moves.now c.loop-at.at d).span.lo = w.lo.ensures.value ∙ ap (λ (m : Move). m.span.lo) (get_or_default c.args.routes.moves.now c.loop-at.at w.index-moves-at.result d lt) in
      omega (arith, low, w.rank.ensures.value, w.rank-in-loop-at.ensures.value, w.if-rank.false)
  | else-loop-at-test w ↦ absurd (omega arith)
]) c.loop-at.invariant c.in_ok-copy_legs-2.ensures

pub returns-clause-end : goal.returns-clause-end
returns-clause-end c = end_is c.args.routes.legs.now c.args.routes.moves.now (c.args.routes.number, said c.args.routes.heard) c.args.lo c.loop-at.reach c.args.hi c.args.first c.loop-at.at _ _ c.requires.rise (λ d lt. elim c.loop-at-test.branch [
  | then-loop-at-test+else-rank w ↦
      let low : w.lo.result ≡ (get_or c.args.routes.moves.now c.loop-at.at d).span.lo = w.lo.ensures.value ∙ ap (λ (m : Move). m.span.lo) (get_or_default c.args.routes.moves.now c.loop-at.at w.index-moves-at.result d lt) in
      omega (arith, low, w.rank.ensures.value, w.rank-in-loop-at.ensures.value, w.if-rank.false)
  | else-loop-at-test w ↦ absurd (omega arith)
]) c.loop-at.invariant
