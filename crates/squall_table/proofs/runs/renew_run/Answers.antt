use Rattle.std.proofs.Common.{List, subst}
use Rattle.std.specs.Prelude.{IfOk}
use Rattle.squall_span.specs.Spans.{Interval}
use Rattle.squall_blocks.specs.Entries.{replaced}
use Rattle.squall_table.specs.declared.routes.Heard.TheVariants.{All}
use Rattle.squall_table.specs.LegEntries.{legs_from}
use Rattle.squall_table.specs.Legs.{said}
use Rattle.squall_table.specs.Patching.{IsRenewed}
use Rattle.squall_table.proofs.Built.{rising}
use Rattle.squall_table.proofs.OneLoad.{alone}
use Rattle.squall_table.proofs.runs.renew_run.Goals as goal

pub move_of-requires : goal.move_of-requires
move_of-requires c = rising c.args.course.now.old c.args.course.now.new c.moves.result.now c.moves.ensures.meaning

pub returns-in-Some-clause-legs : goal.returns-in-Some-clause-legs
returns-in-Some-clause-legs c =
    subst (λ (set : List Interval). IfOk c.renew_load.result (λ r. IsRenewed c.args.course.now (said All) set (legs_from 0 c.args.table.now) (legs_from 0 (replaced r.lo r.hi r.fresh c.args.table.now))))
    (alone c.args.run.now c.index-run-0.result c.if-run-eq1.true c.index-run-0.is) c.renew_load.ensures.legs
