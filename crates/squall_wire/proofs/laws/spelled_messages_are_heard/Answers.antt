use Rattle.squall_wire.specs.HearingLaws.{spelled_are_heard}
use Rattle.squall_wire.proofs.laws.spelled_messages_are_heard.Goals as goal

pub returns : goal.returns
returns c = spelled_are_heard
