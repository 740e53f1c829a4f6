use Rattle.std.proofs.Common.{None, Some, sym, subst}
use Rattle.squall_board.specs.Boards.{says}
use Rattle.squall_board.specs.MovesRoute.{route_in_move}
use Rattle.squall_table.specs.declared.routes.Heard.{Heard}
use Rattle.squall_table.specs.Legs.{Grows, said}
use Rattle.squall_table.proofs.Coming.{ok_as, grows_by_cell, grows_done}
use Rattle.squall_table.proofs.routes.push_move.Goals as goal

pub returns-in_default : goal.returns-in_default
returns-in_default c =
    let m = c.args.moved.now in
    let b = c.in-Board.board.now in
    let xs = c.args.out.now.items in
    let ys = c.push_leg-in_default.new.out.items in
    ok_as c.push_leg-in_default.result (Grows (λ _. m.source) c.args.lo c.args.hi xs ys) _
    (λ p. subst (λ (h : Heard). Grows (route_in_move c.args.number (said h) m) c.args.lo c.args.hi xs ys) (sym c.in-Board.is) (grows_by_cell c.args.number (says b) m None c.args.lo c.args.hi xs ys c.in_default.ensures p))
    c.push_leg-in_default.ensures

pub returns-then-get : goal.returns-then-get
returns-then-get c =
    let m = c.args.moved.now in
    let b = c.in-Board.board.now in
    let cell = c.in-Some.cell.now in
    let xs = c.args.out.now.items in
    let ys = c.push_leg-then-get.new.out.items in
    ok_as c.push_leg-then-get.result (Grows (λ _. m.dest) c.args.lo c.args.hi xs ys) _
    (λ p. subst (λ (h : Heard). Grows (route_in_move c.args.number (said h) m) c.args.lo c.args.hi xs ys) (sym c.in-Board.is) (grows_by_cell c.args.number (says b) m (Some cell) c.args.lo c.args.hi xs ys c.in-Some.ensures (grows_done m cell c.args.lo c.args.hi xs ys (sym c.if-get.ensures) p)))
    c.push_leg-then-get.ensures
