use Rattle.std.proofs.Common.{List, [], ap, subst, ◌∙◌, arith}
use Rattle.squall_plan.specs.declared.range.PlanRange.{PlanRange}
use Rattle.squall_course.specs.declared.moving.Move.{Move}
use Rattle.squall_plan.specs.Ranges.{owner_of}
use Rattle.squall_board.specs.MovesRoute.{route_by_moves}
use Rattle.squall_table.specs.Legs.{Grows, said}
use Rattle.squall_table.specs.LegEntries.{legs_from, entries_of}
use Rattle.squall_table.specs.Patching.{renewed}
use Rattle.squall_table.proofs.Moving.{moves_rise_of}
use Rattle.squall_table.proofs.Patched.{placed, renews, ends_later, starts_sooner}
use Rattle.squall_table.proofs.fresh.renew.Goals as goal

pub reach_of-lo-requires-clause-order : goal.reach_of-lo-requires-clause-order
reach_of-lo-requires-clause-order c = (placed c.args.set.now c.lo.result c.hi.result c.index-set-0.result c.index-set-set.result c.requires.set c.requires.some c.index-set-0.is c.index-set-set.is c.lo.ensures.value c.hi.ensures.value).less

pub fresh_legs-requires-clause-rise : goal.fresh_legs-requires-clause-rise
fresh_legs-requires-clause-rise c = moves_rise_of c.args.course.now.old c.args.course.now.new 0 c.moves.result.now (omega arith) c.moves.ensures.meaning.each c.moves.ensures.meaning.rise

pub fresh_legs-requires-clause-ends : goal.fresh_legs-requires-clause-ends
fresh_legs-requires-clause-ends c =
    let p = placed c.args.set.now c.lo.result c.hi.result c.index-set-0.result c.index-set-set.result c.requires.set c.requires.some c.index-set-0.is c.index-set-set.is c.lo.ensures.value c.hi.ensures.value in
    ends_later c.hi.result c.reach_of-lo.result.1 c.args.set.now c.reach_of-lo.ensures.high p.ends

pub fresh_legs-requires-clause-starts : goal.fresh_legs-requires-clause-starts
fresh_legs-requires-clause-starts c =
    let p = placed c.args.set.now c.lo.result c.hi.result c.index-set-0.result c.index-set-set.result c.requires.set c.requires.some c.index-set-0.is c.index-set-set.is c.lo.ensures.value c.hi.ensures.value in
    starts_sooner c.reach_of-lo.result.0 c.lo.result c.args.set.now c.reach_of-lo.ensures.low p.starts

pub fresh_legs-requires-clause-order : goal.fresh_legs-requires-clause-order
fresh_legs-requires-clause-order c =
    let p = placed c.args.set.now c.lo.result c.hi.result c.index-set-0.result c.index-set-set.result c.requires.set c.requires.some c.index-set-0.is c.index-set-set.is c.lo.ensures.value c.hi.ensures.value in
    omega (arith, p.less, c.reach_of-lo.ensures.low, c.reach_of-lo.ensures.high)

pub returns-clause-legs : goal.returns-clause-legs
returns-clause-legs c =
    let ls : List PlanRange = legs_from 0 c.args.table.now in
    let p = placed c.args.set.now c.lo.result c.hi.result c.index-set-0.result c.index-set-set.result c.requires.set c.requires.some c.index-set-0.is c.index-set-set.is c.lo.ensures.value c.hi.ensures.value in
    let out = c.in_ok-legs.legs.items in
    let by_old : Grows (renewed c.args.set.now (route_by_moves c.number.result c.args.course.now.old c.moves.result.now (said c.args.heard)) (owner_of ls)) c.reach_of-lo.result.0 c.reach_of-lo.result.1 [] out =
    subst (λ (old : List PlanRange). Grows (renewed c.args.set.now (route_by_moves c.number.result old c.moves.result.now (said c.args.heard)) (owner_of ls)) c.reach_of-lo.result.0 c.reach_of-lo.result.1 [] out) (c.ranges-2.ensures.value ∙ c.old_plan.ensures.value) c.in_ok-legs.ensures.legs in
    let by_number : Grows (renewed c.args.set.now (route_by_moves c.args.course.now.number c.args.course.now.old c.moves.result.now (said c.args.heard)) (owner_of ls)) c.reach_of-lo.result.0 c.reach_of-lo.result.1 [] out =
    subst (λ n. Grows (renewed c.args.set.now (route_by_moves n c.args.course.now.old c.moves.result.now (said c.args.heard)) (owner_of ls)) c.reach_of-lo.result.0 c.reach_of-lo.result.1 [] out) c.number.ensures.value by_old in
    (renews _ c.args.table.now c.in_ok-fresh.fresh c.args.set.now c.lo.result c.hi.result c.reach_of-lo.result.0 c.reach_of-lo.result.1 out c.requires.table p c.reach_of-lo.ensures
    (subst (λ (ms : List Move). Grows (renewed c.args.set.now (route_by_moves c.args.course.now.number c.args.course.now.old ms (said c.args.heard)) (owner_of ls)) c.reach_of-lo.result.0 c.reach_of-lo.result.1 [] out) c.moves.ensures.list by_number)
    (c.in_ok-fresh.ensures ∙ ap entries_of c.deref.ensures.value)).legs

pub returns-clause-rise : goal.returns-clause-rise
returns-clause-rise c =
    let p = placed c.args.set.now c.lo.result c.hi.result c.index-set-0.result c.index-set-set.result c.requires.set c.requires.some c.index-set-0.is c.index-set-set.is c.lo.ensures.value c.hi.ensures.value in
    (renews (route_by_moves c.number.result c.ranges-2.result.now c.moves.result.now (said c.args.heard)) c.args.table.now c.in_ok-fresh.fresh c.args.set.now c.lo.result c.hi.result c.reach_of-lo.result.0 c.reach_of-lo.result.1 c.in_ok-legs.legs.items c.requires.table p c.reach_of-lo.ensures
    c.in_ok-legs.ensures.legs (c.in_ok-fresh.ensures ∙ ap entries_of c.deref.ensures.value)).rise

pub returns-clause-last : goal.returns-clause-last
returns-clause-last c =
    let p = placed c.args.set.now c.lo.result c.hi.result c.index-set-0.result c.index-set-set.result c.requires.set c.requires.some c.index-set-0.is c.index-set-set.is c.lo.ensures.value c.hi.ensures.value in
    let r = renews (route_by_moves c.number.result c.ranges-2.result.now c.moves.result.now (said c.args.heard)) c.args.table.now c.in_ok-fresh.fresh c.args.set.now c.lo.result c.hi.result c.reach_of-lo.result.0 c.reach_of-lo.result.1 c.in_ok-legs.legs.items c.requires.table p c.reach_of-lo.ensures
    c.in_ok-legs.ensures.legs (c.in_ok-fresh.ensures ∙ ap entries_of c.deref.ensures.value) in
    omega (arith, r.last)
