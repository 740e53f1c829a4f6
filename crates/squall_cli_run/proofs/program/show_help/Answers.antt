use Rattle.std.proofs.Common.{false, refl, sym, ◌∙◌, arith}
use Rattle.std.specs.Prelude.{string_bytes}
use Rattle.squall_cli_lines.specs.declared.RunFault.TheVariants.{NoMemory}
use Rattle.squall_cli_ask.proofs.Telling.{outcome_goes, fault_goes}
use Rattle.squall_cli_run.proofs.TaskLemmas.{help_unwritten}
use Rattle.squall_cli_run.proofs.Telling.{help_unrefused}
use Rattle.squall_cli_run.proofs.program.show_help.Goals as goal

pub returns-in_default-clause-help : goal.returns-in_default-clause-help
returns-in_default-clause-help g c = λ _. help_unwritten c.args.title.now (g.O.Sink.state c.args.out.now) c.tell_fault.result c.tell_fault.ensures.status

pub returns-in_default-clause-told : goal.returns-in_default-clause-told
returns-in_default-clause-told g c = fault_goes _ c.tell_fault.result _ _ NoMemory c.tell_fault.ensures.status c.tell_fault.ensures.told

pub returns-clause-told : goal.returns-clause-told
returns-clause-told g c = outcome_goes _ c.tell_outcome.result _ _ c.write_output.result c.tell_outcome.ensures.status c.tell_outcome.ensures.told

pub returns-clause-help : goal.returns-clause-help
returns-clause-help g c = λ asks.
    let w = c.write_output.ensures.written (record { text = string_bytes c.in-Ok.help; refused = false }) (c.as_str.ensures.value, refl) in
    (c.write_output.result, string_bytes c.in-Ok.help, w.0, c.tell_outcome.ensures.status, c.in-Ok.ensures.help asks, w.1, w.2)

pub returns-in_default-clause-unrefused : goal.returns-in_default-clause-unrefused
returns-in_default-clause-unrefused g c = λ one. omega (arith, c.tell_fault.ensures.status, one)

pub returns-clause-unrefused : goal.returns-clause-unrefused
returns-clause-unrefused g c = λ one.
    let w = c.write_output.ensures.written (record { text = string_bytes c.in-Ok.help; refused = false }) (c.as_str.ensures.value, refl) in
    help_unrefused c.write_output.result (string_bytes c.in-Ok.help) w.0 w.2 (sym c.tell_outcome.ensures.status ∙ one)
