use Rattle.std.proofs.Common.{IfOk, subst, sym}
use Rattle.squall_protocol.specs.Steps.{Step}
use Rattle.squall_world.specs.Views.{view}
use Rattle.squall_world.proofs.world.World.answer.Goals as goal

pub returns-in-Serve-clause-ok : goal.returns-in-Serve-clause-ok
returns-in-Serve-clause-ok c = subst (λ e. Step (view c.args.self.now) e c.serve.result (view c.args.self.now)) (sym c.in-Serve.is) c.serve.ensures

pub returns-in-BeginFrom-clause-ok : goal.returns-in-BeginFrom-clause-ok
returns-in-BeginFrom-clause-ok c = subst (λ e. IfOk c.begin_from.result (λ answer. Step (view c.args.self.now) e answer (view c.begin_from.new.self))) (sym c.in-BeginFrom.is) c.begin_from.ensures.ok
