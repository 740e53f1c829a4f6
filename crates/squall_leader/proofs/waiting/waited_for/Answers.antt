use Rattle.std.proofs.Common.{◌∙◌, sym}
use Rattle.squall_leader.proofs.First.{waited_some, waited_none}
use Rattle.squall_leader.proofs.waiting.waited_for.Goals as goal

pub returns-then-is_waited_for : goal.returns-then-is_waited_for
returns-then-is_waited_for c = waited_some c.args.course.now c.args.board.now c.number-number.result c.args.sub c.arrivals-one-items.result.now c.loop-one.one-index c.one-item.result c.number-number.ensures.value
    (record { same = c.arrivals-one-items.ensures.same; rise = c.arrivals-one-items.ensures.rise }) c.loop-one-test.true c.one-item.is c.loop-one.invariant (sym c.is_waited_for.ensures.value ∙ c.if-is_waited_for.true) c.is_waited_for.ensures.limit

pub returns : goal.returns
returns c = waited_none c.args.course.now c.args.board.now c.number-number.result c.args.sub c.arrivals-one-items.result.now c.loop-one.one-index c.number-number.ensures.value
    (record { same = c.arrivals-one-items.ensures.same; rise = c.arrivals-one-items.ensures.rise }) c.loop-one-test.false c.loop-one.invariant
