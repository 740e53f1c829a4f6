use Rattle.squall_board.proofs.Lists.{subs_at}
use Rattle.squall_board.proofs.lent.push_numbers.Goals as goal

pub push_subs-requires : goal.push_subs-requires
push_subs-requires c = subs_at c.args.numbers.now c.loop-entry.entry-index c.entry-item.result c.entries.result.now c.loop-entry-test.true c.entry-item.is c.entries.ensures.entries c.requires
