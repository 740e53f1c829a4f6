use Rattle.squall_plan.proofs.Tapes.{at_data, get_is, finds}
use Rattle.squall_plan.proofs.tape.read_member.Goals as goal

pub returns : goal.returns
returns c d s = finds c.get.result _ _ (c.get.ensures s.0 s.1) (at_data _ _ d s.2 (get_is c.args.name.now s.0))
