use Rattle.squall_delta.proofs.Rows.{subs_at}
use Rattle.squall_delta.proofs.digests.rows.Goals as goal

pub push_rows-requires : goal.push_rows-requires
push_rows-requires c = subs_at c.args.numbers.now c.loop-entry.entry-index c.entry-item.result c.entries.result.now c.loop-entry-test.true c.entry-item.is c.entries.ensures.entries c.requires
