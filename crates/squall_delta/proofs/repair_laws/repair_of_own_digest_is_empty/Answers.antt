use Rattle.squall_delta.specs.RepairLaws.{own_repair}
use Rattle.squall_delta.proofs.repair_laws.repair_of_own_digest_is_empty.Goals as goal

pub returns : goal.returns
returns c is = own_repair c.args.board.now c.known.ensures.board c.args.repair.now c.known-2.ensures.board is
