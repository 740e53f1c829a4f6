use Rattle.std.proofs.Common.{◌∙◌, sym, ap, rules}
use Rattle.std.specs.Prelude.{string_bytes}
use Rattle.squall_world_rows.specs.Seen.{RowNetValue}
use Rattle.squall_world_rows.specs.Maps.{mapped}
use Rattle.squall_cli_scenario.specs.State.{ScenarioOf}
use Rattle.squall_cli_scenario.specs.Stages.{stage_seen, board_seen, stage_meant, meant}
use Rattle.squall_cli_scenario.specs.Replies.{world_reply}
use Rattle.squall_cli_scenario.proofs.Made.{not_answered, too_many, world_made}
use Rattle.squall_cli_scenario.proofs.worlds.make_world.Goals as goal

pub returns-in-Err-TooManyRouters : goal.returns-in-Err-TooManyRouters
returns-in-Err-TooManyRouters c =
    let first = c.in-Running.router.first in
    too_many (meant c.args.scenario.now) first.old first.new c.args.routers (string_bytes c.args.out.now)
    (ap (λ (s : ScenarioOf RowNetValue). stage_meant s.stage) (sym c.scenario.view_is) ∙ ap (λ g. stage_meant (stage_seen g)) c.in-Running.is) (c.in-Err-TooManyRouters.ensures.err.0 (search rules))

pub returns-in_err-add_world : goal.returns-in_err-add_world
returns-in_err-add_world c =
    not_answered c.from_residual.result (string_bytes c.args.out.now) (string_bytes c.add_world.new.out) (meant c.args.scenario.now)
    (world_reply (meant c.args.scenario.now) (meant c.args.scenario.now).stage c.args.routers) c.from_residual.ensures.0

pub returns : goal.returns
returns c =
    let first = c.in-Running.router.first in
    let inside = c.scenario.inside in
    world_made inside.line (stage_seen inside.stage) (board_seen inside.stage) inside.feed c.args.scenario.now first.old first.new c.args.routers (mapped c.in-Ok.world) (string_bytes c.args.out.now) (string_bytes c.add_world.new.out)
    c.scenario.view_is (ap (λ g. stage_meant (stage_seen g)) c.in-Running.is) c.in-Ok.ensures.few c.in-Ok.ensures.ok c.in_ok-add_world.ensures
