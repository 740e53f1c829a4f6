use Rattle.std.proofs.Common.{◌<◌, ◌∙◌, sym, ap, length, arith}
use Rattle.squall_blocks.proofs.Blocked.{rises_by, read_rises}
use Rattle.squall_blocks.proofs.Replacing.{edit_found, in_order, count_of, before_later}
use Rattle.squall_blocks.proofs.edit.places_of.Goals as goal

pub near-first-requires-clause-rise : goal.near-first-requires-clause-rise
near-first-requires-clause-rise g c = rises_by c.args.lasts.now.items c.deref.result.now c.args.blocks.now.items c.requires.blocks c.deref.ensures.value

pub near-first-requires-clause-some : goal.near-first-requires-clause-some
near-first-requires-clause-some g c = omega (arith, c.requires.some, count_of c.args.lasts.now.items c.args.blocks.now.items c.requires.blocks, ap length c.deref.ensures.value)

pub near_from-end-requires-clause-rise : goal.near_from-end-requires-clause-rise
near_from-end-requires-clause-rise g c = rises_by c.args.lasts.now.items c.deref-2.result.now c.args.blocks.now.items c.requires.blocks c.deref-2.ensures.value

pub near_from-end-requires-clause-within : goal.near_from-end-requires-clause-within
near_from-end-requires-clause-within g c = omega (arith, c.near-first.ensures.within, ap length c.deref.ensures.value, ap length c.deref-2.ensures.value)

pub near_from-end-requires-clause-before : goal.near_from-end-requires-clause-before
near_from-end-requires-clause-before g c = before_later c.deref.result.now c.deref-2.result.now c.args.from c.args.to c.near-first.result (c.deref.ensures.value ∙ sym c.deref-2.ensures.value) c.requires.order c.near-first.ensures

pub index-head-requires : goal.index-head-requires
index-head-requires g c = omega (arith, c.near-first.ensures.within, ap length c.deref.ensures.value, count_of c.args.lasts.now.items c.args.blocks.now.items c.requires.blocks)

pub index-tail-requires : goal.index-tail-requires
index-tail-requires g c = omega (arith, c.near_from-end.ensures.within, ap length c.deref-2.ensures.value, count_of c.args.lasts.now.items c.args.blocks.now.items c.requires.blocks)

pub ended-start-requires : goal.ended-start-requires
ended-start-requires g c =
    let lt : c.near-first.result < length c.args.blocks.now.items = omega (arith, c.near-first.ensures.within, ap length c.deref.ensures.value, count_of c.args.lasts.now.items c.args.blocks.now.items c.requires.blocks) in
    read_rises c.args.blocks.now.items c.near-first.result c.index-head.result.now c.requires.blocks.rise lt c.index-head.ensures

pub ended-stop-requires : goal.ended-stop-requires
ended-stop-requires g c =
    let lt : c.near_from-end.result < length c.args.blocks.now.items = omega (arith, c.near_from-end.ensures.within, ap length c.deref-2.ensures.value, count_of c.args.lasts.now.items c.args.blocks.now.items c.requires.blocks) in
    read_rises c.args.blocks.now.items c.near_from-end.result c.index-tail.result.now c.requires.blocks.rise lt c.index-tail.ensures

pub returns-clause-edit : goal.returns-clause-edit
returns-clause-edit g c =
    edit_found c.args.lasts.now.items c.deref.result.now c.deref-2.result.now c.args.blocks.now.items c.index-head.result.now c.index-tail.result.now c.args.from c.args.to c.near-first.result c.near_from-end.result c.ended-start.result c.ended-stop.result
    c.requires.blocks c.deref.ensures.value c.deref-2.ensures.value c.requires.order c.near-first.ensures c.near_from-end.ensures c.index-head.ensures c.index-tail.ensures c.ended-start.ensures.up_to c.ended-stop.ensures.beyond c.ended-start.ensures.within c.ended-stop.ensures.within

pub returns-clause-order : goal.returns-clause-order
returns-clause-order g c one =
    let lt : c.near-first.result < length c.args.blocks.now.items = omega (arith, c.near-first.ensures.within, ap length c.deref.ensures.value, count_of c.args.lasts.now.items c.args.blocks.now.items c.requires.blocks) in
    (in_order c.args.blocks.now.items c.index-head.result.now c.index-tail.result.now c.args.from c.args.to c.near-first.result c.near_from-end.result c.ended-start.result c.ended-stop.result
    one lt c.index-head.ensures c.index-tail.ensures c.requires.order c.ended-start.ensures.up_to c.ended-stop.ensures.up_to c.ended-start.ensures.within c.ended-stop.ensures.within).0
