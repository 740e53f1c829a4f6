use Rattle.std.proofs.Common.{◌≡◌, ◌+◌, ◌<◌, ◌≤◌, arith}
use Rattle.std.proofs.lemmas.Grind.{common_steps}
use Rattle.squall_key.specs.Keys.{top}
use Rattle.squall_status.specs.Steps.{shared_count}
use Rattle.squall_status.proofs.Sharing.{shared_few}
use Rattle.squall_status.proofs.progress.count_shared.Goals as goal

pub overflow_add-count : goal.overflow_add-count
overflow_add-count c =
    let span = c.args.span in
    let full : span.lo < span.hi = omega (arith, c.lo-in-loop-one.ensures.below, c.lo-in-loop-one.ensures.value) in
    let high : span.hi ≤ top = omega (arith, c.hi-in-loop-one.ensures.high, c.hi-in-loop-one.ensures.value) in
    let few = shared_few span c.args.spans full high c.requires.canonical c.requires.ends in
    let next : (c.loop-one.count + c.count-count.result) + shared_count span c.next.new.self ≡ shared_count span c.args.spans = grind (arith, common_steps) in
    omega (arith, next, few)
