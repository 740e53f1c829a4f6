use Rattle.std.proofs.Common.{◌<◌, ◌≤◌, max, min, ap, ◌∙◌, arith}
use Rattle.squall_span.proofs.Compared.{max_is, min_is}
use Rattle.squall_table.specs.Legs.{pick}
use Rattle.squall_table.proofs.Picks.{walk_first, walk_more, walk_done, none_before}
use Rattle.squall_table.proofs.routes.push_picked.Goals as goal

pub loop-span-init : goal.loop-span-init
loop-span-init c =
    walk_first (pick c.args.set.now c.args.dest c.args.source) c.args.set.now c.into_iter-span-iterator.result c.args.lo c.args.hi c.args.out.now.items c.requires c.spans_beyond-span-items.ensures.set.0
    (c.into_iter-span-iterator.ensures.into_iter_gives ∙ c.spans_beyond-span-items.ensures.value)

pub returns-then-rank : goal.returns-then-rank
returns-then-rank c =
    let past : c.args.hi ≤ c.in-Some.span.lo = omega (arith, c.if-rank.true, c.rank.ensures.value, c.rank-in-loop-span.ensures.value, c.lo.ensures.value) in
    walk_done c.args.set.now c.args.dest c.args.source c.args.lo c.loop-span.reach c.args.hi c.loop-span.span-iterator _ _ _
    (none_before c.loop-span.span-iterator c.next.new.self c.in-Some.span c.args.hi c.loop-span.invariant.canonical c.in-Some.ensures.steps past) c.loop-span.invariant c.in_ok-push_leg.ensures

pub loop-span-preserved : goal.loop-span-preserved
loop-span-preserved c =
    let x = c.in-Some.span in
    let below : x.lo < c.args.hi = omega (arith, c.if-rank.false, c.rank.ensures.value, c.rank-in-loop-span.ensures.value, c.lo.ensures.value) in
    walk_more c.args.set.now c.args.dest c.args.source c.args.lo c.loop-span.reach c.args.hi c.loop-span.span-iterator c.next.new.self x c.max-start.result c.min-reach.result _ _ _ _ c.in-Some.ensures.steps below
    ((c.max-start.ensures ∙ max_is c.lo-in-loop-span.result c.loop-span.reach) ∙ ap (λ n. max n c.loop-span.reach) c.lo-in-loop-span.ensures.value) ((c.min-reach.ensures ∙ min_is c.hi.result c.args.hi) ∙ ap (λ n. min n c.args.hi) c.hi.ensures.value)
    c.loop-span.invariant c.in_ok-push_leg-2.ensures c.in_ok-push_leg-3.ensures
