use Rattle.std.proofs.Common.{◌≡◌, sym, ap, ◌∙◌, arith}
use Rattle.squall_key.specs.Keys.{top}
use Rattle.squall_span.specs.Spans.{total_length}
use Rattle.squall_span.proofs.Counting.{count_is_total}
use Rattle.squall_span.proofs.Beyond.{total_within}
use Rattle.squall_span.proofs.set.SpanSet.count.Goals as goal

pub overflow_add-count : goal.overflow_add-count
overflow_add-count c =
    let all = total_within top c.args.self.now c.spans-span-items.ensures.set.0 c.spans-span-items.ensures.set.1 in
    let here = ap total_length c.in-Some.ensures.steps in
    omega (arith, all, here, c.loop-span.invariant, c.count-count.ensures.value)

pub returns-clause-number : goal.returns-clause-number
returns-clause-number c =
    let none = ap total_length c.in-None.ensures.steps.0 in
    let all : c.loop-span.count ≡ total_length c.args.self.now = omega (arith, none, c.loop-span.invariant) in
    all ∙ sym (count_is_total c.args.self.now top c.spans-span-items.ensures.set.0 c.spans-span-items.ensures.set.1)
