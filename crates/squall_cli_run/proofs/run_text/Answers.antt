use Rattle.squall_cli_run.proofs.run_text.Goals as goal

pub returns-clause-text : goal.returns-clause-text
returns-clause-text g c = rw c.new-scenario.ensures at c.run.ensures.text

pub returns-clause-prompt : goal.returns-clause-prompt
returns-clause-prompt g c = rw c.new-scenario.ensures at c.run.ensures.prompt

pub returns-clause-no_read_after : goal.returns-clause-no_read_after
returns-clause-no_read_after g c = λ e. rw c.new-scenario.ensures at (c.run.ensures.no_read_after e)
