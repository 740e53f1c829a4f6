use Rattle.std.proofs.Common.{◌≡◌, subst}
use Rattle.std.specs.Prelude.{IfOk}
use Rattle.squall_span.specs.Spans.{minus}
use Rattle.squall_span.proofs.Made.{near_minus, minus_keys}
use Rattle.squall_span.proofs.set.SpanSet.minus.Goals as goal

pub returns-then-is_far_less-clause-value : goal.returns-then-is_far_less-clause-value
returns-then-is_far_less-clause-value c =
    let same : minus c.args.self.now c.in_ok-near.near ≡ minus c.args.self.now c.args.other.now =
    near_minus c.args.self.now c.args.other.now c.in_ok-near.near c.known.ensures c.known-2.ensures c.known-then-is_far_less.ensures c.in_ok-near.ensures in
    subst (λ m. IfOk c.walked_minus.result (λ set. set ≡ m)) same c.walked_minus.ensures

pub returns-then-is_far_less-clause-keys : goal.returns-then-is_far_less-clause-keys
returns-then-is_far_less-clause-keys c = minus_keys c.args.self.now c.args.other.now c.walked_minus.result (returns-then-is_far_less-clause-value c)

pub returns-clause-keys : goal.returns-clause-keys
returns-clause-keys c = minus_keys c.args.self.now c.args.other.now c.walked_minus-2.result c.walked_minus-2.ensures
