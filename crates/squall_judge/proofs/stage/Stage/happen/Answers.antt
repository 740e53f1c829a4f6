use Rattle.squall_world.specs.Views.{view}
use Rattle.squall_judge.proofs.Events.{not_yet}
use Rattle.squall_judge.proofs.stage.Stage.happen.Goals as goal

pub returns-then-is_not_yet-clause-ok : goal.returns-then-is_not_yet-clause-ok
returns-then-is_not_yet-clause-ok c =
    not_yet (view c.args.self.now.world) (view c.step.new.self) c.args.node.now c.args.event.now c.in_ok-answer.answer c.in_ok-answer.ensures.ok (c.is_not_yet.ensures.yes c.if-is_not_yet.true)

pub returns-clause-ok : goal.returns-clause-ok
returns-clause-ok c = record { place = c.is_place.ensures.same c.if-not-is_place.false; step = c.in_ok-answer.ensures.ok; there = c.is_not_yet.ensures.no c.if-is_not_yet.false }
