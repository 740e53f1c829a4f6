use Rattle.squall_delta.specs.RepairLaws.{completed}
use Rattle.squall_delta.proofs.repair_laws.repairs_complete.Goals as goal

pub returns : goal.returns
returns c none is = completed c.args.board.now c.args.other.now c.args.repair.now c.known.ensures.board c.known-2.ensures.board c.known-3.ensures.board none is
