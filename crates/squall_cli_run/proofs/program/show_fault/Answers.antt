use Rattle.std.proofs.Common.{◌++◌, inl, inr, refl}
use Rattle.std.specs.Prelude.{codes}
use Rattle.squall_cli_lines.specs.declared.RunFault.TheVariants.{NoMemory}
use Rattle.squall_cli_ask.proofs.Telling.{fault_goes}
use Rattle.squall_cli_run.proofs.program.show_fault.Goals as goal

pub returns-in-Ok-clause-told : goal.returns-in-Ok-clause-told
returns-in-Ok-clause-told g c = λ _. (codes "squall: " ++ c.without_label.result.now, inr (inr (inl (refl, refl))), c.say_named.ensures.told)

pub returns-in-Err-clause-told : goal.returns-in-Err-clause-told
returns-in-Err-clause-told g c = λ _. fault_goes _ c.tell_fault.result _ _ NoMemory c.tell_fault.ensures.status c.tell_fault.ensures.told
