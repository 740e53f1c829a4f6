use Rattle.std.proofs.Common.{◌∙◌, subst, arith}
use Rattle.squall_course.specs.Steps.{leaving_place, arriving_place, AreFiled}
use Rattle.squall_course.proofs.Sweeps.{follow_tiling}
use Rattle.squall_course.proofs.Tabled.{is_table, moves_are, count_is, made_of, plans_of}
use Rattle.squall_course.proofs.course.Course.new.Goals as goal

pub transfers-requires-clause-ranges : goal.transfers-requires-clause-ranges
transfers-requires-clause-ranges c = follow_tiling 0 _ c.ranges-2.ensures.canonical.tiles

pub transfers-requires-clause-others : goal.transfers-requires-clause-others
transfers-requires-clause-others c = follow_tiling 0 _ c.ranges-3.ensures.canonical.tiles

pub overflow_cast-subplans : goal.overflow_cast-subplans
overflow_cast-subplans c =
    let old = c.in_ok-old.old in
    let new = c.in_ok-new.new in
    let fs = c.in_ok-table.table in
    let plans = plans_of old new c.ranges-2.result.now c.ranges-3.result.now c.ranges-2.ensures.value c.ranges-3.ensures.value c.ranges-2.ensures.canonical c.ranges-3.ensures.canonical c.ranges-2.ensures.ranges c.ranges-3.ensures.ranges in
    let made = made_of old new c.ranges-2.result.now c.ranges-3.result.now c.deref.result.now c.in_ok-transfers.transfers.items c.ranges-2.ensures.value c.ranges-3.ensures.value c.in_ok-transfers.ensures c.deref.ensures.value in
    let t = is_table old new c.deref.result.now fs plans made c.in_ok-table.ensures.same c.in_ok-table.ensures.sorted in
    let few = (count_is old new c.ranges-4.result.now fs c.most-subplans.result t c.ranges-4.ensures.value c.most-subplans.ensures).1 in
    omega (arith, few)

pub invariant_of-result : goal.invariant_of-result
invariant_of-result c =
    let old = c.in_ok-old.old in
    let new = c.in_ok-new.new in
    let fs = c.in_ok-table.table in
    let plans = plans_of old new c.ranges-2.result.now c.ranges-3.result.now c.ranges-2.ensures.value c.ranges-3.ensures.value c.ranges-2.ensures.canonical c.ranges-3.ensures.canonical c.ranges-2.ensures.ranges c.ranges-3.ensures.ranges in
    let made = made_of old new c.ranges-2.result.now c.ranges-3.result.now c.deref.result.now c.in_ok-transfers.transfers.items c.ranges-2.ensures.value c.ranges-3.ensures.value c.in_ok-transfers.ensures c.deref.ensures.value in
    let t = is_table old new c.deref.result.now fs plans made c.in_ok-table.ensures.same c.in_ok-table.ensures.sorted in
    let made-2 = made_of old new c.ranges-2.result.now c.ranges-3.result.now c.deref-2.result.now c.in_ok-transfers.transfers.items c.ranges-2.ensures.value c.ranges-3.ensures.value c.in_ok-transfers.ensures c.deref-2.ensures.value in
    let listed = moves_are old new fs c.deref-2.result.now c.in_ok-moves.moves.items plans t made-2 c.in_ok-moves.ensures in
    let count = (count_is old new c.ranges-4.result.now fs c.most-subplans.result t c.ranges-4.ensures.value c.most-subplans.ensures).0 in
    let leaving = subst (λ ms. AreFiled leaving_place ms c.in_ok-leaving.leaving.items) (c.deref-3.ensures.value ∙ listed) c.in_ok-leaving.ensures in
    let arriving = subst (λ ms. AreFiled arriving_place ms c.in_ok-arriving.arriving.items) (c.deref-4.ensures.value ∙ listed) c.in_ok-arriving.ensures in
    record { numbered = omega arith; plans = plans; linked = t; listed = listed; counted = count; left = leaving; arrived = arriving }
