use Rattle.std.proofs.Common.{Ok}
use Rattle.squall_cli_ask.proofs.Telling.{outcome_goes}
use Rattle.squall_cli_ask.proofs.messages.tell_file_outcome.Goals as goal

pub returns-in-Ok-clause-told : goal.returns-in-Ok-clause-told
returns-in-Ok-clause-told g c = outcome_goes _ c.tell_outcome.result _ _ (Ok c.in-Ok.ended) c.tell_outcome.ensures.status c.tell_outcome.ensures.told
