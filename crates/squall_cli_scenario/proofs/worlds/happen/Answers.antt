use Rattle.std.proofs.Common.{ap}
use Rattle.std.specs.Prelude.{string_bytes}
use Rattle.squall_world_rows.specs.Maps.{mapped}
use Rattle.squall_cli_scenario.specs.Stages.{stage_seen, board_seen, stage_meant}
use Rattle.squall_cli_scenario.proofs.Made.{event_happened}
use Rattle.squall_cli_scenario.proofs.worlds.happen.Goals as goal

pub returns : goal.returns
returns c =
    let inside = c.scenario.inside in
    let asked = c.in_ok-_answer in
    event_happened inside.line (stage_seen inside.stage) (board_seen inside.stage) inside.feed c.args.scenario.now (mapped c.in-Happening.world) (mapped c.step_world.new.world) c.args.event c.in-Ok.event asked._answer (string_bytes c.args.out.now) (string_bytes c.step_world.new.out)
    c.scenario.view_is (ap board_seen c.in-Happening.is) (ap (λ g. stage_meant (stage_seen g)) c.in-Happening.is) c.in-Ok.is asked.ensures.step asked.ensures.text
