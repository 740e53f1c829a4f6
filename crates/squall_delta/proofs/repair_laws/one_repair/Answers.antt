use Rattle.squall_delta.specs.RepairLaws.{same_repairs}
use Rattle.squall_delta.proofs.repair_laws.one_repair.Goals as goal

pub returns : goal.returns
returns c = same_repairs c.args.board.now c.args.digest.now c.args.repair.now c.args.other.now c.known.ensures.board c.known-2.ensures.board
