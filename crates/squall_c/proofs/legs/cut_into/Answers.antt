use Rattle.std.specs.Prelude.{◌<◌, ◌≤◌, length, refl}
use Rattle.std.proofs.Common.{sym, ◌∙◌, add-one, arith, inl, inr}
use Rattle.squall_c.specs.Showing.{cut_legs}
use Rattle.squall_c.proofs.CutLegs.{written_none, written_next, written_all, cut_ends, cut_no_longer, next_leg, no_leg}
use Rattle.squall_c.proofs.legs.cut_into.Goals as goal

pub loop-count-init : goal.loop-count-init
loop-count-init c = (written_none _ _ _ _, refl)

pub returns-in_default-clause-legs : goal.returns-in_default-clause-legs
returns-in_default-clause-legs c =
    let none = no_leg c.args.legs c.loop-count.count (sym c.loop-count.invariant.1 ∙ c.in_default.ensures.steps.0) in
    let few = cut_no_longer c.args.lo c.args.hi c.args.legs in
    let past : length (cut_legs c.args.lo c.args.hi c.args.legs) ≤ c.loop-count.count = omega (arith, none, few) in
    (written_all c.args.lo c.args.hi c.loop-count.count c.args.legs c.args.room.now c.loop-count.room c.loop-count.invariant.0 (inr past)).legs

pub returns-in_default-clause-count : goal.returns-in_default-clause-count
returns-in_default-clause-count c =
    let none = no_leg c.args.legs c.loop-count.count (sym c.loop-count.invariant.1 ∙ c.in_default.ensures.steps.0) in
    let few = cut_no_longer c.args.lo c.args.hi c.args.legs in
    let past : length (cut_legs c.args.lo c.args.hi c.args.legs) ≤ c.loop-count.count = omega (arith, none, few) in
    (written_all c.args.lo c.args.hi c.loop-count.count c.args.legs c.args.room.now c.loop-count.room c.loop-count.invariant.0 (inr past)).count

pub returns-then-rank-hi-clause-legs : goal.returns-then-rank-hi-clause-legs
returns-then-rank-hi-clause-legs c =
    let next = next_leg c.args.legs c.loop-count.count c.in-Some.leg c.next.new.self (sym c.loop-count.invariant.1 ∙ c.in-Some.ensures.steps) in
    let past : length (cut_legs c.args.lo c.args.hi c.args.legs) ≤ c.loop-count.count =
    cut_ends c.args.lo c.args.hi c.loop-count.count c.args.legs c.in-Some.leg next.1 (omega (arith, c.if-rank-hi.true, c.rank.ensures.value, c.lo.ensures.value)) in
    (written_all c.args.lo c.args.hi c.loop-count.count c.args.legs c.args.room.now c.loop-count.room c.loop-count.invariant.0 (inr past)).legs

pub returns-then-rank-hi-clause-count : goal.returns-then-rank-hi-clause-count
returns-then-rank-hi-clause-count c =
    let next = next_leg c.args.legs c.loop-count.count c.in-Some.leg c.next.new.self (sym c.loop-count.invariant.1 ∙ c.in-Some.ensures.steps) in
    let past : length (cut_legs c.args.lo c.args.hi c.args.legs) ≤ c.loop-count.count =
    cut_ends c.args.lo c.args.hi c.loop-count.count c.args.legs c.in-Some.leg next.1 (omega (arith, c.if-rank-hi.true, c.rank.ensures.value, c.lo.ensures.value)) in
    (written_all c.args.lo c.args.hi c.loop-count.count c.args.legs c.args.room.now c.loop-count.room c.loop-count.invariant.0 (inr past)).count

pub loop-count-preserved : goal.loop-count-preserved
loop-count-preserved c =
    let next = next_leg c.args.legs c.loop-count.count c.in-Some.leg c.next.new.self (sym c.loop-count.invariant.1 ∙ c.in-Some.ensures.steps) in
    let room : c.loop-count.count < length c.args.room.now = omega (arith, c.loop-count-test.true, c.loop-count.auto.room) in (
      written_next c.args.lo c.args.hi c.loop-count.count c.args.legs c.in-Some.leg c.cut_leg.result c.args.room.now c.loop-count.room next.0 room next.1
          (omega (arith, c.if-rank-hi.false, c.rank.ensures.value, c.lo.ensures.value)) c.cut_leg.ensures c.loop-count.invariant.0,
      rw add-one (sym next.2),
    )

pub returns-clause-legs : goal.returns-clause-legs
returns-clause-legs c =
    let full : length c.args.room.now ≤ c.loop-count.count = omega (arith, c.loop-count-test.false, c.loop-count.auto.room) in
    (written_all c.args.lo c.args.hi c.loop-count.count c.args.legs c.args.room.now c.loop-count.room c.loop-count.invariant.0 (inl full)).legs

pub returns-clause-count : goal.returns-clause-count
returns-clause-count c =
    let full : length c.args.room.now ≤ c.loop-count.count = omega (arith, c.loop-count-test.false, c.loop-count.auto.room) in
    (written_all c.args.lo c.args.hi c.loop-count.count c.args.legs c.args.room.now c.loop-count.room c.loop-count.invariant.0 (inl full)).count
