use Rattle.std.proofs.Common.{◌<◌, subst, rules}
use Rattle.squall_span.proofs.Nearing.{Nearing, nearing_more}
use Rattle.squall_span.proofs.near.add_below.Goals as goal

pub loop-span-preserved : goal.loop-span-preserved
loop-span-preserved c =
    let below : c.in-Some.span.lo < c.args.hi = search rules in
    let here = subst (Nearing c.args.list.now.items c.args.spans c.args.hi c.loop-span.list.items) c.in-Some.ensures.steps c.loop-span.invariant in
    nearing_more c.args.list.now.items c.args.spans c.loop-span.list.items c.next.new.self c.insert.new.spans.items c.args.hi c.in-Some.span below (search rules) (search rules) here c.in_ok-insert.ensures.value
