use Rattle.std.proofs.Common.{length}
use Rattle.std.proofs.lemmas.Result.{err_from_is_err_and}
use Rattle.squall_wire.specs.Limits.{body_limit}
use Rattle.squall_wire.specs.Spelling.{word}
use Rattle.squall_wire.proofs.Written.{list_long}
use Rattle.squall_wire.proofs.write.write_all.Goals as goal

pub returns-in_err-write_within-clause-long : goal.returns-in_err-write_within-clause-long
returns-in_err-write_within-clause-long g c = λ e.
    let p = err_from_is_err_and c.from_residual-in_err-write_within.result c.from_residual-in_err-write_within.ensures.1 in
    list_long body_limit g.T.Spelled.spelling c.args.out.now.items (word (length c.args.items.now)) c.args.items.now c.loop-item.item-index c.item-item.result c.loop-item.out.items c.loop-item-test.true c.item-item.is c.loop-item.invariant.written
    (c.write_within.ensures.long cc)
