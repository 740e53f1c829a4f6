use Rattle.std.specs.Arc.{arc_value}
use Rattle.squall_course.specs.Change.{Change}
use Rattle.squall_world.proofs.Started.{first_is_world, first_is_start}
use Rattle.squall_world.proofs.world.World.over.Goals as goal

pub invariant_of-result : goal.invariant_of-result
invariant_of-result c = let first : Change = arc_value c.args.first.now in first_is_world first.old first.new c.args.routers c.in_ok-net.net c.in_ok-net.ensures

pub returns-clause-ok : goal.returns-clause-ok
returns-clause-ok c = let first : Change = arc_value c.args.first.now in first_is_start first.old first.new c.args.routers c.in_ok-net.net c.in_ok-net.ensures

pub returns-clause-reached : goal.returns-clause-reached
returns-clause-reached c = let first : Change = arc_value c.args.first.now in (first_is_world first.old first.new c.args.routers c.in_ok-net.net c.in_ok-net.ensures).reached
