use Rattle.std.proofs.Common.{[], refl}
use Rattle.squall_cli_ask.proofs.Statuses.{nothing_said}
use Rattle.squall_cli_ask.proofs.messages.tell_outcome.Goals as goal

pub returns-in-Ok-Fine-clause-told : goal.returns-in-Ok-Fine-clause-told
returns-in-Ok-Fine-clause-told g c = rw c.in-Ok-Fine.is ([], refl, nothing_said (g.E.Sink.state c.args.err.now))

pub returns-in-Ok-Refused-clause-told : goal.returns-in-Ok-Refused-clause-told
returns-in-Ok-Refused-clause-told g c = rw c.in-Ok-Refused.is ([], refl, nothing_said (g.E.Sink.state c.args.err.now))
