use Rattle.std.proofs.Common.{arith, ap, ◌∙◌, sym}
use Rattle.squall_blocks.specs.Entries.{last_from, up_to}
use Rattle.squall_table.proofs.Walked.{reach_some, reach_all}
use Rattle.squall_table.proofs.entries.reach_of.Goals as goal

pub returns-in-Some : goal.returns-in-Some
returns-in-Some c =
    reach_some c.args.table.now c.args.low c.args.high c.bound_before.result c.end_before-lo.result c.in-Some.entry c.requires.canonical c.requires.order (omega (arith, c.rank-top.ensures.value, c.rank-top.ensures.high)) c.bound_before.ensures
    (c.end_before-lo.ensures ∙ ap (λ n. last_from n (up_to c.bound_before.result c.args.table.now)) c.bottom.ensures) (sym c.in-Some.is ∙ c.above.ensures)

pub returns-in-None : goal.returns-in-None
returns-in-None c =
    reach_all c.args.table.now c.args.low c.args.high c.bound_before.result c.end_before-lo.result c.requires.canonical c.requires.order (omega (arith, c.rank-top.ensures.value, c.rank-top.ensures.high)) c.bound_before.ensures
    (c.end_before-lo.ensures ∙ ap (λ n. last_from n (up_to c.bound_before.result c.args.table.now)) c.bottom.ensures) (sym c.in-None.is ∙ c.above.ensures)
