use Rattle.std.proofs.Common.{◌<◌, ◌≤◌, refl, ◌∙◌, arith}
use Rattle.squall_key.specs.Keys.{top}
use Rattle.squall_span.proofs.Compared.{min_is}
use Rattle.squall_table.specs.LegLaws.{canonical_legs}
use Rattle.squall_table.proofs.Walked.{copied_none, copied_more, copied_on, copied_up, copied_all}
use Rattle.squall_table.proofs.entries.copy_entries.Goals as goal

pub loop-rest-init : goal.loop-rest-init
loop-rest-init c = copied_none c.args.table.now c.iter_from-rest.result c.args.lo c.args.hi c.args.out.now.items c.requires.order c.iter_from-rest.ensures

pub unreachable-requires : goal.unreachable-requires
unreachable-requires c =
    let high : c.args.hi ≤ top = omega (arith, c.rank-in-loop-rest-2.ensures.value, c.rank-in-loop-rest-2.ensures.high) in
    copied_on c.args.table.now c.loop-rest.rest c.args.lo c.loop-rest.reach c.args.hi c.args.out.now.items c.loop-rest.out.items (canonical_legs _ c.requires.canonical) high
    (omega (arith, c.loop-rest-test.true, c.rank-in-loop-rest.ensures.value, c.rank-in-loop-rest-2.ensures.value)) c.loop-rest.invariant c.in_default.ensures.steps.0

pub push_leg-requires : goal.push_leg-requires
push_leg-requires c =
    let high : c.args.hi ≤ top = omega (arith, c.rank-in-loop-rest-2.ensures.value, c.rank-in-loop-rest-2.ensures.high) in
    let less : c.loop-rest.reach < c.args.hi = omega (arith, c.loop-rest-test.true, c.rank-in-loop-rest.ensures.value, c.rank-in-loop-rest-2.ensures.value) in
    let up = copied_up c.args.table.now c.loop-rest.rest c.next.new.self c.args.lo c.loop-rest.reach c.args.hi c.in-Some.entry.0 c.in-Some.entry c.args.out.now.items c.loop-rest.out.items (canonical_legs _ c.requires.canonical) high
    less c.loop-rest.invariant c.in-Some.ensures.steps refl in
    omega (arith, up, less, (c.min-stop.ensures ∙ min_is c.in-Some.entry.0 c.args.hi))

pub loop-rest-preserved : goal.loop-rest-preserved
loop-rest-preserved c =
    let high : c.args.hi ≤ top = omega (arith, c.rank-in-loop-rest-2.ensures.value, c.rank-in-loop-rest-2.ensures.high) in
    copied_more c.args.table.now c.loop-rest.rest c.next.new.self c.args.lo c.loop-rest.reach c.args.hi c.in-Some.entry.0 c.in-Some.entry.1 c.min-stop.result c.in-Some.entry c.args.out.now.items c.loop-rest.out.items c.push_leg.new.out.items (canonical_legs _ c.requires.canonical) high
    (omega (arith, c.loop-rest-test.true, c.rank-in-loop-rest.ensures.value, c.rank-in-loop-rest-2.ensures.value)) c.loop-rest.invariant c.in-Some.ensures.steps refl refl (c.min-stop.ensures ∙ min_is c.in-Some.entry.0 c.args.hi) c.in_ok-push_leg.ensures

pub loop-rest-smaller : goal.loop-rest-smaller
loop-rest-smaller c =
    let high : c.args.hi ≤ top = omega (arith, c.rank-in-loop-rest-2.ensures.value, c.rank-in-loop-rest-2.ensures.high) in
    let less : c.loop-rest.reach < c.args.hi = omega (arith, c.loop-rest-test.true, c.rank-in-loop-rest.ensures.value, c.rank-in-loop-rest-2.ensures.value) in
    let up = copied_up c.args.table.now c.loop-rest.rest c.next.new.self c.args.lo c.loop-rest.reach c.args.hi c.in-Some.entry.0 c.in-Some.entry c.args.out.now.items c.loop-rest.out.items (canonical_legs _ c.requires.canonical) high
    less c.loop-rest.invariant c.in-Some.ensures.steps refl in
    omega (arith, up, less, (c.min-stop.ensures ∙ min_is c.in-Some.entry.0 c.args.hi))

pub returns : goal.returns
returns c = copied_all c.args.table.now c.loop-rest.rest c.args.lo c.loop-rest.reach c.args.hi c.args.out.now.items c.loop-rest.out.items c.loop-rest.invariant (omega (arith, c.loop-rest-test.false, c.rank-in-loop-rest.ensures.value, c.rank-in-loop-rest-2.ensures.value))
