use Rattle.std.proofs.Common.{add-one}
use Rattle.squall_replay.proofs.Grown.{one_more}
use Rattle.squall_replay.proofs.rebuilding.replay.Goals as goal

pub loop-call-preserved : goal.loop-call-preserved
loop-call-preserved c =
    rw add-one (one_more c.args.part.now c.loop-call.part c.make.new.part c.args.calls.now c.loop-call.call-index c.call-item.result c.call-item.result c.in_ok-make.field-0 c.loop-call-test.true c.call-item.is c.loop-call.invariant c.in_ok-make.ensures.answer c.known.ensures)
