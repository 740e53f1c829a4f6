use Rattle.std.proofs.Common.{ap, ◌∙◌, rules}
use Rattle.squall_world.specs.Nets.{noted}
use Rattle.squall_world.proofs.Counting.{noted_zero, noted_set}
use Rattle.squall_world.proofs.counts.note.Goals as goal

pub loop-known-preserved : goal.loop-known-preserved
loop-known-preserved c =
    (search rules, ap (noted c.args.at c.args.count) c.push_reserved.ensures.items ∙ noted_zero c.args.at c.args.count c.loop-known.known.items (search rules) ∙ c.loop-known.invariant.1)

pub returns : goal.returns
returns c = noted_set c.args.at c.args.count c.loop-known.known.items (search rules) ∙ c.loop-known.invariant.1
