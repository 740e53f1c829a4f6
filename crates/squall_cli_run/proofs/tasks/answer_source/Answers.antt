use Rattle.squall_cli_run.proofs.TaskLemmas.{refused_is}
use Rattle.squall_cli_run.proofs.tasks.answer_source.Goals as goal

pub returns-in-Run-clause-no_read_after : goal.returns-in-Run-clause-no_read_after
returns-in-Run-clause-no_read_after g c = λ is one. c.run_text.ensures.no_read_after (refused_is c.run_text.result one)
