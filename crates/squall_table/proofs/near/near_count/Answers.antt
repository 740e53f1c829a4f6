use Rattle.std.proofs.Common.{arith}
use Rattle.squall_table.specs.LegLaws.{canonical_legs}
use Rattle.squall_table.proofs.Walked.{counted_none, counted_more, counted_up}
use Rattle.squall_table.proofs.near.near_count.Goals as goal
use Rattle.squall_table.proofs.near.near_count.Goals.{then-is_near, else-is_near}

pub loop-rest-init : goal.loop-rest-init
loop-rest-init c = counted_none c.args.set.now c.args.table.now c.iter_from-rest.result c.args.from c.requires.begins c.iter_from-rest.ensures

pub is_near-requires : goal.is_near-requires
is_near-requires c =
    let up = counted_up c.args.set.now c.args.table.now c.loop-rest.rest c.next.new.self c.loop-rest.reach c.loop-rest.count c.in-Some.entry c.requires.canonical c.loop-rest.invariant c.in-Some.ensures.steps in
    record { order = omega (arith, up.0) }

pub loop-rest-smaller : goal.loop-rest-smaller
loop-rest-smaller c =
    let up = counted_up c.args.set.now c.args.table.now c.loop-rest.rest c.next.new.self c.loop-rest.reach c.loop-rest.count c.in-Some.entry c.requires.canonical c.loop-rest.invariant c.in-Some.ensures.steps in
    omega (arith, up.0, up.1)

pub loop-rest-preserved : goal.loop-rest-preserved
loop-rest-preserved c = elim c.if-is_near.branch [
  | then-is_near w ↦
      counted_more c.args.set.now c.args.table.now c.loop-rest.rest c.next.new.self c.loop-rest.reach c.loop-rest.count c.if-is_near.count c.in-Some.entry (canonical_legs _ c.requires.canonical) c.loop-rest.invariant c.in-Some.ensures.steps
      (omega (arith, w.count-is)) (omega (arith, w.count-is)) (λ lt. c.is_near.ensures w.if-is_near.true)
  | else-is_near w ↦
      counted_more c.args.set.now c.args.table.now c.loop-rest.rest c.next.new.self c.loop-rest.reach c.loop-rest.count c.if-is_near.count c.in-Some.entry (canonical_legs _ c.requires.canonical) c.loop-rest.invariant c.in-Some.ensures.steps
      (omega (arith, w.count-is)) (omega (arith, w.count-is)) (λ lt. absurd (omega (arith, w.count-is, lt)))
]
