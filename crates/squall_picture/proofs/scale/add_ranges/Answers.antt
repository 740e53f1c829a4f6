use Rattle.std.proofs.Common.{◌≡◌, ◌+◌, ◌∷◌, ap, sym, ◌∙◌, drop}
use Rattle.std.proofs.lemmas.List.{drop_more}
use Rattle.squall_picture.specs.Scale.{with_tick, with_ranges}
use Rattle.squall_picture.proofs.scale.add_ranges.Goals as goal

pub loop-range-preserved : goal.loop-range-preserved
loop-range-preserved c =
    let r = c.range-item.result in
    let rest = drop (c.loop-range.range-index + 1) c.args.ranges.now in
    let here : drop c.loop-range.range-index c.args.ranges.now ≡ r ∷ rest = drop_more c.args.ranges.now c.loop-range.range-index r c.loop-range-test.true ∙ ap (λ x. x ∷ rest) (sym c.range-item.is) in
    let first = c.in_ok-add_tick.ensures.ticks ∙ ap (with_tick c.loop-range.ticks.items) c.lo.ensures.value in
    let second = c.in_ok-add_tick-2.ensures.ticks ∙ (λ k. with_tick (first k) (c.hi.ensures.value k)) in
    record {
      so_far = ap (λ t. with_ranges t rest) second ∙ sym (ap (with_ranges c.loop-range.ticks.items) here) ∙ c.loop-range.invariant.so_far;
      rise = c.in_ok-add_tick-2.ensures.rise;
    }
