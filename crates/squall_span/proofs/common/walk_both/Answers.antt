use Rattle.std.proofs.Common.{◌≤◌, ◌<◌, ◌+◌, ◌∷◌, max, min, List, drop, inl, inr, sym, ap, subst, ◌∙◌, arith}
use Rattle.std.proofs.lemmas.List.{drop_all}
use Rattle.squall_key.specs.Lemmas.{lt_from_cmp, ge_from_cmp}
use Rattle.squall_span.specs.Spans.{Interval}
use Rattle.squall_span.proofs.Adding.{added_some, added_none}
use Rattle.squall_span.proofs.Places.{from_place}
use Rattle.squall_span.proofs.Meeting.{Meeting, meeting_first, meeting_second, meeting_done}
use Rattle.squall_span.proofs.common.walk_both.Goals as goal
use Rattle.squall_span.proofs.common.walk_both.Goals.{in-Some+in_ok-push, in_default, then-loop-at-test+else-other-second, else-loop-at-test}

pub loop-at-preserved-then-lt : goal.loop-at-preserved-then-lt
loop-at-preserved-then-lt c =
    let xs : List Interval = c.args.first.now in
    let ys : List Interval = c.args.second.now in
    let s : Interval = c.index-first-at.result in
    let t : Interval = c.index-second-other.result in
    let ends : c.hi.result < c.hi-in-loop-at.result = lt_from_cmp _ _ (sym c.if-lt.ensures) in
    let in_a = from_place xs c.loop-at.at s (omega arith) c.index-first-at.is in
    let in_b = from_place ys c.loop-at.other t (omega arith) c.index-second-other.is in
    subst (λ (l : List Interval). Meeting xs ys c.match-shared.out.items (drop (c.loop-at.at + 1) xs) l) (sym in_b)
    (meeting_first xs ys c.loop-at.out.items c.match-shared.out.items s (drop (c.loop-at.at + 1) xs) t (drop (c.loop-at.other + 1) ys) (omega arith)
    (elim c.match-shared.branch [
      | in-Some+in_ok-push w ↦ added_some (max s.lo t.lo) (min s.hi t.hi) c.loop-at.out.items c.match-shared.out.items w.in-Some.span w.in-Some.ensures (ap (λ v. v.items) w.out-is ∙ w.in_ok-push.ensures.items)
      | in_default w ↦ added_none (max s.lo t.lo) (min s.hi t.hi) c.loop-at.out.items c.match-shared.out.items w.in_default.ensures (ap (λ v. v.items) w.out-is)
    ])
    (subst (λ (l : List Interval). Meeting xs ys c.loop-at.out.items l (t ∷ drop (c.loop-at.other + 1) ys)) in_a
    (subst (λ (l : List Interval). Meeting xs ys c.loop-at.out.items (drop c.loop-at.at xs) l) in_b c.loop-at.invariant)))

pub loop-at-preserved : goal.loop-at-preserved
loop-at-preserved c =
    let xs : List Interval = c.args.first.now in
    let ys : List Interval = c.args.second.now in
    let s : Interval = c.index-first-at.result in
    let t : Interval = c.index-second-other.result in
    let ends : c.hi-in-loop-at.result ≤ c.hi.result = ge_from_cmp _ _ (sym c.if-lt.ensures) in
    let in_a = from_place xs c.loop-at.at s (omega arith) c.index-first-at.is in
    let in_b = from_place ys c.loop-at.other t (omega arith) c.index-second-other.is in
    subst (λ (l : List Interval). Meeting xs ys c.match-shared.out.items l (drop (c.loop-at.other + 1) ys)) (sym in_a)
    (meeting_second xs ys c.loop-at.out.items c.match-shared.out.items s (drop (c.loop-at.at + 1) xs) t (drop (c.loop-at.other + 1) ys) (omega arith)
    (elim c.match-shared.branch [
      | in-Some+in_ok-push w ↦ added_some (max s.lo t.lo) (min s.hi t.hi) c.loop-at.out.items c.match-shared.out.items w.in-Some.span w.in-Some.ensures (ap (λ v. v.items) w.out-is ∙ w.in_ok-push.ensures.items)
      | in_default w ↦ added_none (max s.lo t.lo) (min s.hi t.hi) c.loop-at.out.items c.match-shared.out.items w.in_default.ensures (ap (λ v. v.items) w.out-is)
    ])
    (subst (λ (l : List Interval). Meeting xs ys c.loop-at.out.items l (t ∷ drop (c.loop-at.other + 1) ys)) in_a
    (subst (λ (l : List Interval). Meeting xs ys c.loop-at.out.items (drop c.loop-at.at xs) l) in_b c.loop-at.invariant)))

pub returns-clause-keys : goal.returns-clause-keys
returns-clause-keys c = meeting_done c.args.first.now c.args.second.now c.loop-at.out.items (drop c.loop-at.at c.args.first.now) (drop c.loop-at.other c.args.second.now)
    (elim c.loop-at-test.branch [
      | then-loop-at-test+else-other-second w ↦ inr (drop_all c.loop-at.other c.args.second.now (omega arith))
      | else-loop-at-test w ↦ inl (drop_all c.loop-at.at c.args.first.now (omega arith))
    ])
    c.loop-at.invariant
