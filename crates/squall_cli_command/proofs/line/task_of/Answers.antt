use Rattle.std.proofs.Common.{◌∙◌}
use Rattle.std.proofs.lemmas.Result.{IfOk-weaker}
use Rattle.clap.specs.Words.{found_of, rows_of}
use Rattle.squall_cli_command.proofs.Rows.{job_found}
use Rattle.squall_cli_command.proofs.line.task_of.Goals as goal

pub returns-in-Some : goal.returns-in-Some
returns-in-Some c =
    let job = job_found _ _ _ c.in-Some.name.now (rows_of (found_of c.in-Some.inner.now)) c.in-Some.ensures.name c.in-Some.ensures.rows in
    IfOk-weaker c.task_in.result _ _ (λ task h. h ∙ job) c.task_in.ensures
