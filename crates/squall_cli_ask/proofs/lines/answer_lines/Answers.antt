use Rattle.squall_board.specs.Boards.{says}
use Rattle.squall_board.specs.Route.{route}
use Rattle.squall_cli_ask.specs.Written.{script_of}
use Rattle.squall_cli_boards.specs.Found.{known_seen}
use Rattle.squall_cli_ask.proofs.lines.answer_lines.Goals as goal

pub returns-clause-text : goal.returns-clause-text
returns-clause-text g c =
    let t = c.run.ensures.text in (
      t.0,
      t.1,
      t.2,
      t.3,
      c.outcome_of_function.ensures (script_of (known_seen c.args.known))
          (c.keys_are_answered_by_line.ensures (route c.args.known.course (says c.args.known.board)) 0) c.run.result t.0 t.1 t.4,
    )
