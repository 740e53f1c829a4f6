use Rattle.squall_test_acceptance.proofs.Sent.{message_is, delta_is, no_digest}
use Rattle.squall_test_acceptance.proofs.tests.messages.sent.Goals as goal

pub returns-in-Delta : goal.returns-in-Delta
returns-in-Delta c =
    delta_is c.args.board.now c.in-Delta.sent c.in_ok-message.message
    (message_is c.deref.result.now c.in_ok-frame.frame.items c.args.board.now c.in_ok-message.message c.in_ok-message.field-0-1 c.in_ok-message.ensures.only c.in_ok-frame.ensures.message c.deref.ensures.value c.in_ok-frame.ensures.spelled)
    c.in-Delta.is

pub returns : goal.returns
returns c =
    no_digest c.args.board.now c.in-Digest.field-0 c.in_ok-message.message
    (message_is c.deref.result.now c.in_ok-frame.frame.items c.args.board.now c.in_ok-message.message c.in_ok-message.field-0-1 c.in_ok-message.ensures.only c.in_ok-frame.ensures.message c.deref.ensures.value c.in_ok-frame.ensures.spelled)
    c.in-Digest.is
