use Rattle.squall_board.proofs.Lists.{parts_at}
use Rattle.squall_board.proofs.lent.push_subs.Goals as goal

pub push_parts-requires : goal.push_parts-requires
push_parts-requires c = parts_at c.args.number c.args.subs.now c.loop-entry.entry-index c.entry-item.result c.entries.result.now c.loop-entry-test.true c.entry-item.is c.entries.ensures.entries c.requires
