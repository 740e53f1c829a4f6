use Rattle.std.proofs.Common.{◌≡◌, map, drop}
use Rattle.std.specs.Prelude.{string_bytes}
use Rattle.squall_board.specs.Boards.{says}
use Rattle.squall_board.specs.Route.{route}
use Rattle.squall_cli_boards.specs.Routes.{after_text, routes_answer}
use Rattle.squall_cli_boards.proofs.routes.add_words.Given as goal

-- what comes of the words that are left is what comes of all of them
abbrev pub invariant-loop-word : goal.invariant-loop-word
invariant-loop-word l =
    after_text (string_bytes l.text) (routes_answer (route l.course (says l.board)) (map string_bytes (drop l.word-index l.words)))
    ≡ after_text (string_bytes l.fn.text) (routes_answer (route l.course (says l.board)) (map string_bytes l.words))
