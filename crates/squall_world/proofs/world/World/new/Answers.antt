use Rattle.std.proofs.Common.{IfOk, subst}
use Rattle.squall_course.specs.Change.{Change}
use Rattle.squall_protocol.specs.Worlds.{SameWorld, start}
use Rattle.squall_world.specs.Views.{view}
use Rattle.squall_world.proofs.world.World.new.Goals as goal

pub returns-clause-ok : goal.returns-clause-ok
returns-clause-ok c = subst (λ (k : Change). IfOk c.over.result (λ w. SameWorld (view w) (start k.old k.new c.args.routers))) c.in_ok-first.ensures c.over.ensures.ok
