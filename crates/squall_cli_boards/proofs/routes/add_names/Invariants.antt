use Rattle.std.proofs.Common.{◌≡◌, ◌++◌, map, drop}
use Rattle.std.specs.Prelude.{string_bytes}
use Rattle.squall_board.specs.Boards.{says}
use Rattle.squall_board.specs.Route.{route}
use Rattle.squall_cli_boards.specs.Routes.{named_lines}
use Rattle.squall_cli_boards.proofs.routes.add_names.Given as goal

-- the text so far, and the lines of the names that are left
abbrev pub invariant-loop-name : goal.invariant-loop-name
invariant-loop-name l =
    string_bytes l.text ++ named_lines (route l.course (says l.board)) (map string_bytes (drop l.name-index l.names))
    ≡ string_bytes l.fn.text ++ named_lines (route l.course (says l.board)) (map string_bytes l.names)
