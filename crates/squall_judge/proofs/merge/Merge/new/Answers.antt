use Rattle.squall_protocol.specs.Worlds.{start}
use Rattle.squall_protocol.specs.WorldLaws.{same_world}
use Rattle.squall_world.specs.Views.{view}
use Rattle.squall_judge.proofs.merge.Merge.new.Goals as goal

pub returns : goal.returns
returns c = record {
  chunks = c.in_ok-stage.ensures.known;
  world = same_world (view c.in_ok-stage.stage.world) (start c.args.old.now c.args.new.now c.args.routers) c.in_ok-stage.ensures.start;
  reached = c.in_ok-stage.ensures.reached;
  none = c.in_ok-taken.ensures;
}
