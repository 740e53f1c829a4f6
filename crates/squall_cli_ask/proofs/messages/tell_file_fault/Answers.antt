use Rattle.squall_cli_ask.proofs.Telling.{fault_goes}
use Rattle.squall_cli_ask.proofs.messages.tell_file_fault.Goals as goal

pub returns-clause-told : goal.returns-clause-told
returns-clause-told g c = fault_goes _ c.tell_fault.result _ _ c.args.fault c.tell_fault.ensures.status c.tell_fault.ensures.told
