use Rattle.squall_table.proofs.Moving.{moves_rise}
use Rattle.squall_table.proofs.routes.first_move.Goals as goal

pub ended-requires : goal.ended-requires
ended-requires c = moves_rise 0 _ c.requires

pub returns : goal.returns
returns c = record { within = c.ended.ensures.within; before = c.ended.ensures.before; after = c.ended.ensures.from }
