use Rattle.std.proofs.Common.{◌≡◌, ◌++◌, ap, subst}
use Rattle.std.specs.Prelude.{string_bytes, codes, IfOk}
use Rattle.squall_cli_lines.specs.declared.Flow.TheVariants.{End}
use Rattle.squall_cli_words.specs.Reasons.{bad_line}
use Rattle.squall_world_rows.specs.Seen.{RowNetValue}
use Rattle.squall_cli_scenario.specs.State.{ScenarioOf}
use Rattle.squall_cli_scenario.specs.Stages.{meant}
use Rattle.squall_cli_scenario.specs.Replies.{reply_to_line}
use Rattle.squall_cli_scenario.proofs.Answered.{answered_bad}
use Rattle.squall_cli_scenario.proofs.replies.answer.Goals as goal

pub returns-in-Ok-Some : goal.returns-in-Ok-Some
returns-in-Ok-Some c =
    answered_bad c.end.result c.in-Ok-Some.reason (string_bytes c.args.out.now) (string_bytes c.reply.new.out) (string_bytes c.end.new.out)
    c.args.scenario.now.line (meant c.reply.new.scenario) (reply_to_line (meant c.args.scenario.now) c.args.line.now)
    (rw (c.in-Ok-Some.field-0-is) at c.in-Ok-Some.ensures)
    (subst (λ n. IfOk c.end.result (λ flow. (flow ≡ End) × (string_bytes c.end.new.out ≡ string_bytes c.reply.new.out ++ (bad_line n c.in-Ok-Some.reason ++ codes "\n"))))
    (ap (λ (s : ScenarioOf RowNetValue). s.line) c.scenario.view_is) c.end.ensures)
