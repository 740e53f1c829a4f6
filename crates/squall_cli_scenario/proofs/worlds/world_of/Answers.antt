use Rattle.std.proofs.Common.{ap, ◌∙◌}
use Rattle.std.specs.Arc.{arc_value}
use Rattle.squall_course.specs.Change.{Change}
use Rattle.squall_cli_scenario.proofs.Made.{start_between}
use Rattle.squall_cli_scenario.proofs.worlds.world_of.Goals as goal

pub over-requires : goal.over-requires
over-requires c = ap (λ (k : Change). k.number) c.first.ensures ∙ c.requires

pub returns-clause-ok : goal.returns-clause-ok
returns-clause-ok c =
    start_between c.over.result c.args.router.now.first.old c.args.router.now.first.new (arc_value c.first.result.now).old (arc_value c.first.result.now).new c.args.routers
    (ap (λ (k : Change). k.old) c.first.ensures) (ap (λ (k : Change). k.new) c.first.ensures) c.over.ensures.ok c.over.ensures.empty
