use Rattle.std.proofs.Common.{◌≡◌, ◌++◌, ◌∷◌, []}
use Rattle.std.proofs.lemmas.Result.{err_from_is_err_and}
use Rattle.squall_wire.specs.Reading.{many_at}
use Rattle.squall_wire.proofs.Loop.{goes_on, ends, is_done}
use Rattle.squall_wire.proofs.reading.list.many.Goals as goal

pub returns-in_err-item : goal.returns-in_err-item
returns-in_err-item g c =
    let p = err_from_is_err_and c.from_residual-in_err-item.result c.from_residual-in_err-item.ensures.1 in
    rw (p.1, p.2) (ends g.T.Item.read_at g.T.Item.next c.in_err-item.field-0.0 c.loop.items.items c.args.count c.loop.counter c.loop.point c.loop.rest.now (many_at g.T.Item.read_at g.T.Item.next c.args.count c.args.start c.args.bytes.now) c.loop-test.true c.in_err-item.ensures c.loop.invariant)

pub loop-preserved : goal.loop-preserved
loop-preserved g c =
    let e : c.push.new.self.items ≡ c.loop.items.items ++ c.in_ok-item.item ∷ [] = c.in_ok-push.ensures.items in
    rw (e, c.after-point.ensures) (goes_on g.T.Item.read_at g.T.Item.next c.loop.items.items c.args.count c.loop.counter c.loop.point c.loop.rest.now c.in_ok-item.item c.in_ok-item.after.now (many_at g.T.Item.read_at g.T.Item.next c.args.count c.args.start c.args.bytes.now) c.loop-test.true c.in_ok-item.ensures c.loop.invariant)

pub returns : goal.returns
returns g c = is_done g.T.Item.read_at g.T.Item.next c.loop.items.items c.args.count c.loop.counter c.loop.point c.loop.rest.now (many_at g.T.Item.read_at g.T.Item.next c.args.count c.args.start c.args.bytes.now) c.loop-test.false c.loop.invariant
