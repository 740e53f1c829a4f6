use Rattle.squall_router.proofs.Already.{small_told}
use Rattle.squall_router.proofs.known.tells_small.Goals as goal

pub returns-then-tells_cell : goal.returns-then-tells_cell
returns-then-tells_cell c alone =
    let one = c.in-Some.one in
    small_told c.args.board.now c.args.delta.now one.number one.sub one.part one.cell.now c.in-Some.ensures (c.tells_cell.ensures c.if-tells_cell.true) (c.tells_cells_alone.ensures.openings alone) (c.tells_cells_alone.ensures.issues alone)
