use Rattle.std.proofs.Common.{sym, ◌∙◌}
use Rattle.squall_c_frames.specs.JoinedLaws.{joined_next, joined_all}
use Rattle.squall_c_frames.proofs.messages.joined.Goals as goal

pub loop-message-preserved : goal.loop-message-preserved
loop-message-preserved c =
    let next = joined_next c.loop-message.board c.join_message.new.board c.args.messages.now c.loop-message.message-index c.message-item.result c.loop-message-test.true c.message-item.is c.requires c.in_ok-join_message.ensures c.loop-message.invariant.0 in
    (next.0, next.1 ∙ c.loop-message.invariant.1)

pub returns : goal.returns
returns c = sym (joined_all c.loop-message.board c.args.messages.now c.loop-message.message-index c.loop-message-test.false c.loop-message.invariant.0) ∙ c.loop-message.invariant.1
