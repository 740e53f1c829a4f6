use Rattle.squall_blocks.proofs.Zips.{zip-joined}
use Rattle.squall_blocks.proofs.entries.Entries.joined.Goals as goal

pub returns : goal.returns
returns g c =
    zip-joined c.lists.result.0.now c.lists-2.result.0.now c.lists-3.result.0.now c.in_ok-ends.ends.items c.lists.result.1.now c.lists-2.result.1.now c.lists-3.result.1.now c.in_ok-values.values.items
    c.args.head.now c.args.fresh.now c.args.tail.now c.args.to c.args.from c.lists.ensures.ends c.lists.ensures.values c.lists-2.ensures.ends c.lists-2.ensures.values
    c.lists.ensures.both c.lists-2.ensures.both c.lists-3.ensures.both c.in_ok-ends.ensures c.in_ok-values.ensures
