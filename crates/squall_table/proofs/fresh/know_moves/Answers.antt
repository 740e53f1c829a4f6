use Rattle.std.proofs.Common.{◌∙◌, length, ap, arith}
use Rattle.squall_table.proofs.Renewed.{few_moves}
use Rattle.squall_table.proofs.fresh.know_moves.Goals as goal

pub returns-clause-few : goal.returns-clause-few
returns-clause-few c =
    let old = ap length (c.ranges-old.ensures.value ∙ c.old_plan.ensures.value) in
    let new = ap length (c.ranges-new.ensures.value ∙ c.new_plan.ensures.value) in
    few_moves c.args.course.now.old c.args.course.now.new (omega (arith, old, c.ranges-old.ensures.few)) (omega (arith, new, c.ranges-new.ensures.few))
