use Rattle.squall_plan.proofs.Tapes.{at_data, array_is, finds_items}
use Rattle.squall_plan.proofs.tape.read_items.Goals as goal

pub returns : goal.returns
returns c d s = finds_items c.items.result s.0 _ (c.items.ensures s.0 s.1) (at_data _ _ d s.2 (array_is s.0))
