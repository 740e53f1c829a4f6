use Rattle.std.proofs.Common.{◌+◌, map, drop, string_bytes}
use Rattle.squall_board.specs.Boards.{says}
use Rattle.squall_board.specs.Route.{route}
use Rattle.squall_cli_boards.proofs.Routed.{left_words, name_answered}
use Rattle.squall_cli_boards.proofs.routes.add_names.Goals as goal

pub loop-name-preserved : goal.loop-name-preserved
loop-name-preserved c =
    let names = c.args.names.now in
    let n = c.loop-name.name-index in
    name_answered (route c.args.course.now (says c.args.board.now)) (string_bytes c.loop-name.text) (string_bytes c.add_name.new.text) c.as_str.result.now
    (map string_bytes (drop n names)) (map string_bytes (drop (n + 1) names)) _ c.in_ok-add_name.ensures
    (left_words string_bytes names n c.name-item.result c.as_str.result.now c.loop-name-test.true c.name-item.is c.as_str.ensures.value) c.loop-name.invariant
