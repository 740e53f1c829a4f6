use Rattle.std.proofs.Common.{[], inl, Ok, refl}
use Rattle.squall_cli_lines.specs.declared.Ended.TheVariants.{Fine, Refused}
use Rattle.squall_cli_ask.proofs.Statuses.{nothing_said, end_told}
use Rattle.squall_cli_ask.proofs.Telling.{fault_goes}
use Rattle.squall_cli_ask.proofs.messages.tell_watch.Goals as goal

pub returns-in-Ok-Fine-clause-told : goal.returns-in-Ok-Fine-clause-told
returns-in-Ok-Fine-clause-told g c = ([], end_told c.args.how.is_until_complete c.status_at_end.result c.status_at_end.ensures, nothing_said (g.E.Sink.state c.args.err.now))

pub returns-in-Ok-Refused-clause-told : goal.returns-in-Ok-Refused-clause-told
returns-in-Ok-Refused-clause-told g c = ([], inl (Ok Refused, refl, refl), nothing_said (g.E.Sink.state c.args.err.now))

pub returns-in-Ok-Complete-clause-told : goal.returns-in-Ok-Complete-clause-told
returns-in-Ok-Complete-clause-told g c = ([], inl (Ok Fine, refl, refl), nothing_said (g.E.Sink.state c.args.err.now))

pub returns-in-Err-clause-told : goal.returns-in-Err-clause-told
returns-in-Err-clause-told g c = fault_goes _ c.tell_fault.result _ _ c.in-Err.fault c.tell_fault.ensures.status c.tell_fault.ensures.told
