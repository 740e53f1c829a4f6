use Rattle.std.proofs.Common.{◌≡◌, ◌≤◌, ◌<◌, ◌+◌, suc, drop, sym, ap, ◌∙◌, arith}
use Rattle.std.proofs.lemmas.List.{drop_all}
use Rattle.squall_c_values.proofs.Written.{next_item, no_item}
use Rattle.squall_c_values.proofs.spans.without_first.Goals as goal

pub returns-in_default : goal.returns-in_default
returns-in_default c =
    let none = no_item c.args.spans c.loop-passed.passed (sym c.loop-passed.invariant.0 ∙ c.in_default.ensures.steps.0) in
    c.in_default.ensures.steps.1 ∙ sym (drop_all c.args.count c.args.spans (omega (arith, none, c.loop-passed-test.true)))

pub loop-passed-preserved : goal.loop-passed-preserved
loop-passed-preserved c =
    let next = next_item c.args.spans c.next.new.self c.loop-passed.passed c.in-Some.field-0 (sym c.loop-passed.invariant.0 ∙ c.in-Some.ensures.steps) in
    let one : c.loop-passed.passed + 1 ≡ suc c.loop-passed.passed = omega arith in
    (sym next.2 ∙ ap (λ n. drop n c.args.spans) (sym one), omega (arith, c.loop-passed-test.true))

pub returns : goal.returns
returns c = c.loop-passed.invariant.0 ∙ ap (λ n. drop n c.args.spans) (omega (arith, c.loop-passed.invariant.1, c.loop-passed-test.false))
