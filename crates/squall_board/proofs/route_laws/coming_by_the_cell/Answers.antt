use Rattle.squall_board.specs.MovesRouteLaws.{cell_says_what_came}
use Rattle.squall_board.proofs.route_laws.coming_by_the_cell.Goals as goal

pub returns : goal.returns
returns c = λ cell k. cell_says_what_came c.args.board.now cell k
