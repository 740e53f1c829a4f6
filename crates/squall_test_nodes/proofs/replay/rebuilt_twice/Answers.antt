use Rattle.std.specs.Arc.{arc_value}
use Rattle.squall_part.specs.Parts.{new_part}
use Rattle.squall_test_nodes.proofs.replay.rebuilt_twice.Goals as goal

pub returns : goal.returns
returns c =
    c.one_partition.ensures.rebuilt (new_part c.args.id (arc_value c.args.first.now)) c.in_ok-one.one c.in_ok-other.other c.args.calls.now
    c.in_ok-one.ensures.fresh c.in_ok-one.ensures.leads c.in_ok-other.ensures.leads
