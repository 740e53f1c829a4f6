use Rattle.std.proofs.Common.{◌≡◌, ℕ, subst, arith}
use Rattle.std.proofs.Math.Bool.{or-false}
use Rattle.std.proofs.lemmas.Grind.{common_steps}
use Rattle.squall_span.specs.Spans.{has}
use Rattle.squall_plan.specs.Ranges.{AreRanges}
use Rattle.squall_plan.specs.Ranges.{IsCanonical as IsPlan}
use Rattle.squall_part.specs.Parts.{ranges_of}
use Rattle.squall_part.proofs.Held.{all_taken}
use Rattle.squall_part.proofs.part.ranges_of.Goals as goal

pub returns : goal.returns
returns c =
    let keys : (k : ℕ) → has c.loop-range.held k ≡ has (ranges_of c.args.id c.args.plan.now) k = λ k. (let i = c.loop-range.invariant k in grind (arith, common_steps, or-false)) in
    let canonical = subst IsPlan c.ranges-range-items.ensures.value c.ranges-range-items.ensures.canonical in
    let ranges = subst AreRanges c.ranges-range-items.ensures.value c.ranges-range-items.ensures.ranges in
    all_taken c.args.id c.args.plan.now c.loop-range.held canonical ranges c.know_set.ensures keys
