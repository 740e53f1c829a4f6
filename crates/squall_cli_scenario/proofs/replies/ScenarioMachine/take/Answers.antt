use Rattle.std.specs.Prelude.{string_bytes}
use Rattle.squall_cli_scenario.specs.Stages.{stage_seen, board_seen}
use Rattle.squall_cli_scenario.proofs.Answered.{taken_line}
use Rattle.squall_cli_scenario.proofs.replies.ScenarioMachine.take.Goals as goal

pub returns-clause-answered : goal.returns-clause-answered
returns-clause-answered c =
    taken_line c.answer.result (string_bytes c.args.out.now) (string_bytes c.answer.new.out) c.without_cr.result.now c.args.line.now c.self.inside.line c.saturating_add-self-inside.result (stage_seen c.self.inside.stage) (board_seen c.self.inside.stage) c.self.inside.feed
    c.args.self.now c.answer.new.scenario c.self.view_is c.saturating_add-self-inside.ensures c.without_cr.ensures c.answer.ensures
