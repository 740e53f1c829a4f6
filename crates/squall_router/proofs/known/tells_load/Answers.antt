use Rattle.std.proofs.Common.{arith}
use Rattle.squall_router.proofs.Already.{iff_then, loads_in, none_loaded}
use Rattle.squall_router.proofs.known.tells_load.Goals as goal

pub returns-in-Some : goal.returns-in-Some
returns-in-Some c = iff_then c.has_span.ensures (loads_in c.args.board.now c.args.cell c.in-Some.parts.now c.args.span c.in-Some.ensures)

pub returns-in-None : goal.returns-in-None
returns-in-None c = none_loaded c.args.board.now c.args.cell c.args.span (omega (arith, c.lo.ensures.value, c.lo.ensures.below)) c.in-None.ensures
