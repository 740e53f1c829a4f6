use Rattle.std.proofs.Common.{◌≤◌, ◌<◌, ◌∷◌, [], max, min, inl, inr, refl, sym, ap, ◌∙◌, arith}
use Rattle.squall_key.specs.Lemmas.{lt_from_cmp, ge_from_cmp}
use Rattle.squall_span.specs.Spans.{Interval}
use Rattle.squall_span.proofs.Adding.{added_some, added_none}
use Rattle.squall_span.proofs.Meeting.{meeting_start, meeting_next, meeting_other, meeting_done}
use Rattle.squall_span.proofs.common.walk_spans.Goals as goal
use Rattle.squall_span.proofs.common.walk_spans.Goals.{in-Some+in_ok-push, in_default}

pub loop-span-init : goal.loop-span-init
loop-span-init c = meeting_start (c.args.one ∷ c.args.first) (c.args.two ∷ c.args.second) c.new-out.result.items c.requires.first c.requires.second c.new-out.ensures.items

pub returns-in_default-next-clause-canonical : goal.returns-in_default-next-clause-canonical
returns-in_default-next-clause-canonical c =
    let s : Interval = c.loop-span.own in
    let t : Interval = c.loop-span.other in
    let lo = max s.lo t.lo in
    let hi = min s.hi t.hi in
    let ends : c.hi.result < c.hi-in-loop-span.result = lt_from_cmp _ _ (sym c.if-lt.ensures) in
    (meeting_next (c.args.one ∷ c.args.first) (c.args.two ∷ c.args.second) c.loop-span.out.items c.match-shared.out.items s c.loop-span.first [] t c.loop-span.second (omega arith)
    (elim c.match-shared.branch [
      | in-Some+in_ok-push w ↦ added_some lo hi c.loop-span.out.items c.match-shared.out.items w.in-Some.span w.in-Some.ensures (ap (λ v. v.items) w.out-is ∙ w.in_ok-push.ensures.items)
      | in_default w ↦ added_none lo hi c.loop-span.out.items c.match-shared.out.items w.in_default.ensures (ap (λ v. v.items) w.out-is)
    ])
    c.in_default-next.ensures.steps.0 c.loop-span.invariant).canonical

pub returns-in_default-next-clause-keys : goal.returns-in_default-next-clause-keys
returns-in_default-next-clause-keys c =
    let s : Interval = c.loop-span.own in
    let t : Interval = c.loop-span.other in
    let lo = max s.lo t.lo in
    let hi = min s.hi t.hi in
    let ends : c.hi.result < c.hi-in-loop-span.result = lt_from_cmp _ _ (sym c.if-lt.ensures) in
    meeting_done (c.args.one ∷ c.args.first) (c.args.two ∷ c.args.second) c.match-shared.out.items [] (t ∷ c.loop-span.second) (inl refl)
    (meeting_next (c.args.one ∷ c.args.first) (c.args.two ∷ c.args.second) c.loop-span.out.items c.match-shared.out.items s c.loop-span.first [] t c.loop-span.second (omega arith)
    (elim c.match-shared.branch [
      | in-Some+in_ok-push w ↦ added_some lo hi c.loop-span.out.items c.match-shared.out.items w.in-Some.span w.in-Some.ensures (ap (λ v. v.items) w.out-is ∙ w.in_ok-push.ensures.items)
      | in_default w ↦ added_none lo hi c.loop-span.out.items c.match-shared.out.items w.in_default.ensures (ap (λ v. v.items) w.out-is)
    ])
    c.in_default-next.ensures.steps.0 c.loop-span.invariant)

pub loop-span-preserved-then-lt : goal.loop-span-preserved-then-lt
loop-span-preserved-then-lt c =
    let s : Interval = c.loop-span.own in
    let t : Interval = c.loop-span.other in
    let lo = max s.lo t.lo in
    let hi = min s.hi t.hi in
    let ends : c.hi.result < c.hi-in-loop-span.result = lt_from_cmp _ _ (sym c.if-lt.ensures) in
    meeting_next (c.args.one ∷ c.args.first) (c.args.two ∷ c.args.second) c.loop-span.out.items c.match-shared.out.items s c.loop-span.first (c.in-Some-next.next ∷ c.next.new.self) t c.loop-span.second (omega arith)
    (elim c.match-shared.branch [
      | in-Some+in_ok-push w ↦ added_some lo hi c.loop-span.out.items c.match-shared.out.items w.in-Some.span w.in-Some.ensures (ap (λ v. v.items) w.out-is ∙ w.in_ok-push.ensures.items)
      | in_default w ↦ added_none lo hi c.loop-span.out.items c.match-shared.out.items w.in_default.ensures (ap (λ v. v.items) w.out-is)
    ])
    c.in-Some-next.ensures.steps c.loop-span.invariant

pub returns-in_default-next-2-clause-canonical : goal.returns-in_default-next-2-clause-canonical
returns-in_default-next-2-clause-canonical c =
    let s : Interval = c.loop-span.own in
    let t : Interval = c.loop-span.other in
    let lo = max s.lo t.lo in
    let hi = min s.hi t.hi in
    let ends : c.hi-in-loop-span.result ≤ c.hi.result = ge_from_cmp _ _ (sym c.if-lt.ensures) in
    (meeting_other (c.args.one ∷ c.args.first) (c.args.two ∷ c.args.second) c.loop-span.out.items c.match-shared.out.items s c.loop-span.first t c.loop-span.second [] (omega arith)
    (elim c.match-shared.branch [
      | in-Some+in_ok-push w ↦ added_some lo hi c.loop-span.out.items c.match-shared.out.items w.in-Some.span w.in-Some.ensures (ap (λ v. v.items) w.out-is ∙ w.in_ok-push.ensures.items)
      | in_default w ↦ added_none lo hi c.loop-span.out.items c.match-shared.out.items w.in_default.ensures (ap (λ v. v.items) w.out-is)
    ])
    c.in_default-next-2.ensures.steps.0 c.loop-span.invariant).canonical

pub returns-in_default-next-2-clause-keys : goal.returns-in_default-next-2-clause-keys
returns-in_default-next-2-clause-keys c =
    let s : Interval = c.loop-span.own in
    let t : Interval = c.loop-span.other in
    let lo = max s.lo t.lo in
    let hi = min s.hi t.hi in
    let ends : c.hi-in-loop-span.result ≤ c.hi.result = ge_from_cmp _ _ (sym c.if-lt.ensures) in
    meeting_done (c.args.one ∷ c.args.first) (c.args.two ∷ c.args.second) c.match-shared.out.items (s ∷ c.loop-span.first) [] (inr refl)
    (meeting_other (c.args.one ∷ c.args.first) (c.args.two ∷ c.args.second) c.loop-span.out.items c.match-shared.out.items s c.loop-span.first t c.loop-span.second [] (omega arith)
    (elim c.match-shared.branch [
      | in-Some+in_ok-push w ↦ added_some lo hi c.loop-span.out.items c.match-shared.out.items w.in-Some.span w.in-Some.ensures (ap (λ v. v.items) w.out-is ∙ w.in_ok-push.ensures.items)
      | in_default w ↦ added_none lo hi c.loop-span.out.items c.match-shared.out.items w.in_default.ensures (ap (λ v. v.items) w.out-is)
    ])
    c.in_default-next-2.ensures.steps.0 c.loop-span.invariant)

pub loop-span-preserved : goal.loop-span-preserved
loop-span-preserved c =
    let s : Interval = c.loop-span.own in
    let t : Interval = c.loop-span.other in
    let lo = max s.lo t.lo in
    let hi = min s.hi t.hi in
    let ends : c.hi-in-loop-span.result ≤ c.hi.result = ge_from_cmp _ _ (sym c.if-lt.ensures) in
    meeting_other (c.args.one ∷ c.args.first) (c.args.two ∷ c.args.second) c.loop-span.out.items c.match-shared.out.items s c.loop-span.first t c.loop-span.second (c.in-Some-next-2.next ∷ c.next-else-lt.new.self) (omega arith)
    (elim c.match-shared.branch [
      | in-Some+in_ok-push w ↦ added_some lo hi c.loop-span.out.items c.match-shared.out.items w.in-Some.span w.in-Some.ensures (ap (λ v. v.items) w.out-is ∙ w.in_ok-push.ensures.items)
      | in_default w ↦ added_none lo hi c.loop-span.out.items c.match-shared.out.items w.in_default.ensures (ap (λ v. v.items) w.out-is)
    ])
    c.in-Some-next-2.ensures.steps c.loop-span.invariant
