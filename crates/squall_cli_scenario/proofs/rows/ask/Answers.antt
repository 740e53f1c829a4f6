use Rattle.std.proofs.Common.{ap}
use Rattle.std.specs.Prelude.{string_bytes}
use Rattle.squall_world_rows.specs.Maps.{mapped}
use Rattle.squall_world_rows.specs.Seen.{outcome_of}
use Rattle.squall_cli_scenario.specs.Stages.{stage_seen, board_seen, stage_meant}
use Rattle.squall_cli_scenario.proofs.Made.{command_done}
use Rattle.squall_cli_scenario.proofs.rows.ask.Goals as goal

pub returns : goal.returns
returns c =
    let inside = c.scenario.inside in
    let asked = c.in_ok-_answer in
    command_done inside.line (stage_seen inside.stage) (board_seen inside.stage) inside.feed c.args.scenario.now (mapped c.in-Happening.world) (mapped c.ask_world.new.world) c.in-Some.part c.args.part c.args.key c.args.command.now
    (outcome_of asked._answer) (string_bytes c.args.out.now) (string_bytes c.ask_world.new.out) c.scenario.view_is (ap board_seen c.in-Happening.is) (ap (λ g. stage_meant (stage_seen g)) c.in-Happening.is) c.in-Some.ensures asked.ensures.step asked.ensures.text
