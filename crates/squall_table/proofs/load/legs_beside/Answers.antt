use Rattle.std.proofs.Common.{◌-◌, sym, ap, ◌∙◌, arith}
use Rattle.std.specs.Prelude.{option_map, slice_get}
use Rattle.squall_blocks.specs.Entries.{last_from, up_to, beyond}
use Rattle.squall_table.proofs.Loaded.{beside_some, beside_all}
use Rattle.squall_table.proofs.Walked.{some_owner}
use Rattle.squall_table.proofs.load.legs_beside.Goals as goal

pub unreachable-requires : goal.unreachable-requires
unreachable-requires c =
    some_owner c.args.table.now c.bound_before.result c.requires.canonical (omega (arith, c.bound_before.ensures, c.lo.ensures.value, c.requires.order, c.requires.high)) (sym (ap (option_map (λ l. l.1)) c.in_default.is) ∙ c.whole_above.ensures.entry)

pub returns-in-Some-above : goal.returns-in-Some-above
returns-in-Some-above c =
    beside_some c.args.table.now c.args.span c.bound_before.result c.in-Some.leg.0 c.in-Some.leg.1 c.in-Some-above.entry c.requires.canonical c.requires.order c.requires.high
    (c.bound_before.ensures ∙ ap (λ n. n - 1) c.lo.ensures.value) (c.in-Some.ensures.begin ∙ ap (λ n. last_from n (up_to c.bound_before.result c.args.table.now)) c.bottom.ensures) c.in-Some.ensures.entry
    (sym c.in-Some-above.is ∙ c.above.ensures ∙ ap (λ k. slice_get (beyond k c.args.table.now) 0) c.hi.ensures.value)

pub returns-in-None : goal.returns-in-None
returns-in-None c =
    beside_all c.args.table.now c.args.span c.bound_before.result c.in-Some.leg.0 c.in-Some.leg.1 c.requires.canonical c.requires.order c.requires.high
    (c.bound_before.ensures ∙ ap (λ n. n - 1) c.lo.ensures.value) (c.in-Some.ensures.begin ∙ ap (λ n. last_from n (up_to c.bound_before.result c.args.table.now)) c.bottom.ensures) c.in-Some.ensures.entry
    (sym c.in-None.is ∙ c.above.ensures ∙ ap (λ k. slice_get (beyond k c.args.table.now) 0) c.hi.ensures.value)
