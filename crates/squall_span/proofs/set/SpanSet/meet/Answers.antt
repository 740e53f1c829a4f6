use Rattle.std.proofs.Common.{◌≡◌, subst}
use Rattle.std.specs.Prelude.{IfOk}
use Rattle.squall_span.specs.Spans.{meet}
use Rattle.squall_span.proofs.Made.{near_meet, meet_near, meet_keys}
use Rattle.squall_span.proofs.set.SpanSet.meet.Goals as goal

pub returns-then-is_far_less-clause-value : goal.returns-then-is_far_less-clause-value
returns-then-is_far_less-clause-value c =
    let same : meet c.args.self.now c.in_ok-near.near ≡ meet c.args.self.now c.args.other.now =
    near_meet c.args.self.now c.args.other.now c.in_ok-near.near c.known.ensures c.known-2.ensures c.known-then-is_far_less.ensures c.in_ok-near.ensures in
    subst (λ m. IfOk c.walked_meet.result (λ set. set ≡ m)) same c.walked_meet.ensures

pub returns-then-is_far_less-clause-keys : goal.returns-then-is_far_less-clause-keys
returns-then-is_far_less-clause-keys c = meet_keys c.args.self.now c.args.other.now c.walked_meet.result (returns-then-is_far_less-clause-value c)

pub returns-then-is_far_less-2-clause-value : goal.returns-then-is_far_less-2-clause-value
returns-then-is_far_less-2-clause-value c =
    let near = c.in_ok-near-2.near in
    let same : meet near c.args.other.now ≡ meet c.args.self.now c.args.other.now =
    meet_near c.args.self.now c.args.other.now near c.known.ensures c.known-2.ensures c.known-then-is_far_less-2.ensures c.in_ok-near-2.ensures in
    subst (λ m. IfOk c.walked_meet-then-is_far_less-2.result (λ set. set ≡ m)) same c.walked_meet-then-is_far_less-2.ensures

pub returns-then-is_far_less-2-clause-keys : goal.returns-then-is_far_less-2-clause-keys
returns-then-is_far_less-2-clause-keys c = meet_keys c.args.self.now c.args.other.now c.walked_meet-then-is_far_less-2.result (returns-then-is_far_less-2-clause-value c)

pub returns-clause-keys : goal.returns-clause-keys
returns-clause-keys c = meet_keys c.args.self.now c.args.other.now c.walked_meet-2.result c.walked_meet-2.ensures
