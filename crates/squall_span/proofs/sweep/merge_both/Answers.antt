use Rattle.std.proofs.Common.{◌≤◌, ◌<◌, ◌∷◌, [], sym, arith}
use Rattle.squall_key.specs.Lemmas.{le_from_cmp, gt_from_cmp}
use Rattle.squall_span.proofs.Merging.{merging_left, merging_right, merging_none_left, merging_none_right}
use Rattle.squall_span.proofs.sweep.merge_both.Goals as goal

pub push_spans-requires-clause-canonical : goal.push_spans-requires-clause-canonical
push_spans-requires-clause-canonical c =
    let le : c.lo.result ≤ c.lo-in-loop-out.result = le_from_cmp _ _ (sym c.if-le.ensures) in
    (merging_left (c.args.one ∷ c.args.first) (c.args.two ∷ c.args.second) c.loop-out.out.items c.push_span.new.out.items c.loop-out.first [] c.loop-out.second c.loop-out.a c.loop-out.b (omega arith) c.in_ok-push_span.ensures c.in_default.ensures.steps.0 c.loop-out.invariant).canonical

pub push_spans-requires-clause-starts : goal.push_spans-requires-clause-starts
push_spans-requires-clause-starts c =
    let le : c.lo.result ≤ c.lo-in-loop-out.result = le_from_cmp _ _ (sym c.if-le.ensures) in
    (merging_left (c.args.one ∷ c.args.first) (c.args.two ∷ c.args.second) c.loop-out.out.items c.push_span.new.out.items c.loop-out.first [] c.loop-out.second c.loop-out.a c.loop-out.b (omega arith) c.in_ok-push_span.ensures c.in_default.ensures.steps.0 c.loop-out.invariant).starts_b

pub returns-in_default : goal.returns-in_default
returns-in_default c =
    let le : c.lo.result ≤ c.lo-in-loop-out.result = le_from_cmp _ _ (sym c.if-le.ensures) in
    merging_none_left (c.args.one ∷ c.args.first) (c.args.two ∷ c.args.second) c.push_span.new.out.items (c.loop-out.b ∷ c.loop-out.second) c.push_spans.new.out.items c.requires.first c.requires.second c.in_ok-push_spans.ensures
    (merging_left (c.args.one ∷ c.args.first) (c.args.two ∷ c.args.second) c.loop-out.out.items c.push_span.new.out.items c.loop-out.first [] c.loop-out.second c.loop-out.a c.loop-out.b (omega arith) c.in_ok-push_span.ensures c.in_default.ensures.steps.0 c.loop-out.invariant)

pub loop-out-preserved-then-le : goal.loop-out-preserved-then-le
loop-out-preserved-then-le c =
    let le : c.lo.result ≤ c.lo-in-loop-out.result = le_from_cmp _ _ (sym c.if-le.ensures) in
    merging_left (c.args.one ∷ c.args.first) (c.args.two ∷ c.args.second) c.loop-out.out.items c.push_span.new.out.items c.loop-out.first (c.in-Some.next ∷ c.next.new.self) c.loop-out.second c.loop-out.a c.loop-out.b (omega arith) c.in_ok-push_span.ensures c.in-Some.ensures.steps c.loop-out.invariant

pub push_spans-requires-in_default-next-clause-canonical : goal.push_spans-requires-in_default-next-clause-canonical
push_spans-requires-in_default-next-clause-canonical c =
    let gt : c.lo-in-loop-out.result < c.lo.result = gt_from_cmp _ _ (sym c.if-le.ensures) in
    (merging_right (c.args.one ∷ c.args.first) (c.args.two ∷ c.args.second) c.loop-out.out.items c.push_span-else-le.new.out.items c.loop-out.first c.loop-out.second [] c.loop-out.a c.loop-out.b (omega arith) c.in_ok-push_span-2.ensures c.in_default-next.ensures.steps.0 c.loop-out.invariant).canonical

pub push_spans-requires-in_default-next-clause-starts : goal.push_spans-requires-in_default-next-clause-starts
push_spans-requires-in_default-next-clause-starts c =
    let gt : c.lo-in-loop-out.result < c.lo.result = gt_from_cmp _ _ (sym c.if-le.ensures) in
    (merging_right (c.args.one ∷ c.args.first) (c.args.two ∷ c.args.second) c.loop-out.out.items c.push_span-else-le.new.out.items c.loop-out.first c.loop-out.second [] c.loop-out.a c.loop-out.b (omega arith) c.in_ok-push_span-2.ensures c.in_default-next.ensures.steps.0 c.loop-out.invariant).starts_a

pub returns-in_default-next : goal.returns-in_default-next
returns-in_default-next c =
    let gt : c.lo-in-loop-out.result < c.lo.result = gt_from_cmp _ _ (sym c.if-le.ensures) in
    merging_none_right (c.args.one ∷ c.args.first) (c.args.two ∷ c.args.second) c.push_span-else-le.new.out.items (c.loop-out.a ∷ c.loop-out.first) c.push_spans-in_default-next.new.out.items c.requires.first c.requires.second c.in_ok-push_spans-2.ensures
    (merging_right (c.args.one ∷ c.args.first) (c.args.two ∷ c.args.second) c.loop-out.out.items c.push_span-else-le.new.out.items c.loop-out.first c.loop-out.second [] c.loop-out.a c.loop-out.b (omega arith) c.in_ok-push_span-2.ensures c.in_default-next.ensures.steps.0 c.loop-out.invariant)

pub loop-out-preserved : goal.loop-out-preserved
loop-out-preserved c =
    let gt : c.lo-in-loop-out.result < c.lo.result = gt_from_cmp _ _ (sym c.if-le.ensures) in
    merging_right (c.args.one ∷ c.args.first) (c.args.two ∷ c.args.second) c.loop-out.out.items c.push_span-else-le.new.out.items c.loop-out.first c.loop-out.second (c.in-Some-next.next ∷ c.next-else-le.new.self) c.loop-out.a c.loop-out.b (omega arith) c.in_ok-push_span-2.ensures c.in-Some-next.ensures.steps c.loop-out.invariant
