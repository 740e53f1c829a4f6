use Rattle.squall_board.specs.PlaceLaws.{cells_found}
use Rattle.squall_board.proofs.listed.cells_at_their_places.Goals as goal

pub returns : goal.returns
returns c = cells_found c.args.board.now c.known.ensures.board
