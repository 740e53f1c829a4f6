use Rattle.std.proofs.Common.{◌≡◌, Some, subst}
use Rattle.squall_report.specs.Cells.{CellPlace, place_at}
use Rattle.squall_board.specs.Boards.{cell_of}
use Rattle.squall_router.proofs.Already.{placed_at, cell_told}
use Rattle.squall_router.proofs.known.tells_cell.Goals as goal

pub returns-then-is_complete_too : goal.returns-then-is_complete_too
returns-then-is_complete_too c all f =
    let one = c.args.one in
    let there = c.in-Some-cell_at.there.now in
    let place : c.in-Some.place ≡ place_at one.number one.sub one.part = placed_at c.in-Some.place one.number one.sub one.part c.in-Some.ensures in
    let at : Some there ≡ cell_of c.args.board.now (place_at one.number one.sub one.part) = subst (λ (d : CellPlace). Some there ≡ cell_of c.args.board.now d) place c.in-Some-cell_at.ensures in
    cell_told c.args.board.now (place_at one.number one.sub one.part) there one.cell.now at (c.has_spans.ensures all) (c.is_complete_too.ensures c.if-is_complete_too.true) f
