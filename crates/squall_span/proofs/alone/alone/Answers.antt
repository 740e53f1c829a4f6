use Rattle.std.proofs.Common.{◌≤◌, ◌<◌, ◌∷◌, [], max, min, inr, refl, sym, ap, subst, ◌∙◌, arith}
use Rattle.squall_key.specs.Lemmas.{le_from_cmp, gt_from_cmp}
use Rattle.squall_span.specs.Spans.{Interval}
use Rattle.squall_span.proofs.Adding.{added_some, added_none}
use Rattle.squall_span.proofs.Parting.{IsApart, parting_start, parting_next, parting_other, parting_done, parting_out}
use Rattle.squall_span.proofs.alone.alone.Goals as goal
use Rattle.squall_span.proofs.alone.alone.Goals.{in-Some-before+in_ok-push, in_default-before}

pub loop-span-init : goal.loop-span-init
loop-span-init c =
    parting_start c.args.second c.in_ok-out.out.items c.args.one c.args.first c.in-Some.two c.next.new.self c.lo-from.result c.requires.first c.requires.second c.requires.ends c.in-Some.ensures.steps c.in_ok-out.ensures.items c.lo-from.ensures.value

pub returns-in_default-next-clause-canonical : goal.returns-in_default-next-clause-canonical
returns-in_default-next-clause-canonical c =
    let s : Interval = c.loop-span.own in
    let t : Interval = c.loop-span.other in
    let lo = max c.loop-span.from s.lo in
    let hi = min s.hi t.lo in
    let ends : c.hi.result ≤ c.hi-in-loop-span.result = le_from_cmp _ _ (sym c.if-le.ensures) in
    (parting_next (c.args.one ∷ c.args.first) c.args.second c.loop-span.out.items c.match-before.out.items s c.loop-span.first [] t c.loop-span.second c.loop-span.from (omega arith)
    (elim c.match-before.branch [
      | in-Some-before+in_ok-push w ↦ added_some lo hi c.loop-span.out.items c.match-before.out.items w.in-Some-before.span w.in-Some-before.ensures (ap (λ v. v.items) w.out-is ∙ w.in_ok-push.ensures.items)
      | in_default-before w ↦ added_none lo hi c.loop-span.out.items c.match-before.out.items w.in_default-before.ensures (ap (λ v. v.items) w.out-is)
    ])
    c.in_default-next.ensures.steps.0 c.loop-span.invariant).canonical

pub returns-in_default-next-clause-keys : goal.returns-in_default-next-clause-keys
returns-in_default-next-clause-keys c =
    let s : Interval = c.loop-span.own in
    let t : Interval = c.loop-span.other in
    let lo = max c.loop-span.from s.lo in
    let hi = min s.hi t.lo in
    let ends : c.hi.result ≤ c.hi-in-loop-span.result = le_from_cmp _ _ (sym c.if-le.ensures) in
    parting_out (c.args.one ∷ c.args.first) c.args.second c.match-before.out.items (t ∷ c.loop-span.second) c.loop-span.from
    (parting_next (c.args.one ∷ c.args.first) c.args.second c.loop-span.out.items c.match-before.out.items s c.loop-span.first [] t c.loop-span.second c.loop-span.from (omega arith)
    (elim c.match-before.branch [
      | in-Some-before+in_ok-push w ↦ added_some lo hi c.loop-span.out.items c.match-before.out.items w.in-Some-before.span w.in-Some-before.ensures (ap (λ v. v.items) w.out-is ∙ w.in_ok-push.ensures.items)
      | in_default-before w ↦ added_none lo hi c.loop-span.out.items c.match-before.out.items w.in_default-before.ensures (ap (λ v. v.items) w.out-is)
    ])
    c.in_default-next.ensures.steps.0 c.loop-span.invariant)

pub loop-span-preserved-then-le : goal.loop-span-preserved-then-le
loop-span-preserved-then-le c =
    let s : Interval = c.loop-span.own in
    let t : Interval = c.loop-span.other in
    let lo = max c.loop-span.from s.lo in
    let hi = min s.hi t.lo in
    let ends : c.hi.result ≤ c.hi-in-loop-span.result = le_from_cmp _ _ (sym c.if-le.ensures) in
    parting_next (c.args.one ∷ c.args.first) c.args.second c.loop-span.out.items c.match-before.out.items s c.loop-span.first (c.in-Some-next.next ∷ c.next-then-le.new.self) t c.loop-span.second c.loop-span.from (omega arith)
    (elim c.match-before.branch [
      | in-Some-before+in_ok-push w ↦ added_some lo hi c.loop-span.out.items c.match-before.out.items w.in-Some-before.span w.in-Some-before.ensures (ap (λ v. v.items) w.out-is ∙ w.in_ok-push.ensures.items)
      | in_default-before w ↦ added_none lo hi c.loop-span.out.items c.match-before.out.items w.in_default-before.ensures (ap (λ v. v.items) w.out-is)
    ])
    c.in-Some-next.ensures.steps c.loop-span.invariant

whole : (c : goal.In_ok-push_rest) → IsApart (c.args.one ∷ c.args.first) c.args.second c.push_rest.new.out.items
whole c =
    let s : Interval = c.loop-span.own in
    let t : Interval = c.loop-span.other in
    let lo = max c.loop-span.from s.lo in
    let hi = min s.hi t.lo in
    let ends : c.hi-in-loop-span.result < c.hi.result = gt_from_cmp _ _ (sym c.if-le.ensures) in
    subst (IsApart (c.args.one ∷ c.args.first) c.args.second) (sym c.in_ok-push_rest.ensures)
    (parting_done (c.args.one ∷ c.args.first) c.args.second c.match-before.out.items (s ∷ c.loop-span.first) [] c.hi-from.result (inr refl)
    (parting_other (c.args.one ∷ c.args.first) c.args.second c.loop-span.out.items c.match-before.out.items s c.loop-span.first t c.loop-span.second [] c.loop-span.from c.hi-from.result (omega arith)
    (elim c.match-before.branch [
      | in-Some-before+in_ok-push w ↦ added_some lo hi c.loop-span.out.items c.match-before.out.items w.in-Some-before.span w.in-Some-before.ensures (ap (λ v. v.items) w.out-is ∙ w.in_ok-push.ensures.items)
      | in_default-before w ↦ added_none lo hi c.loop-span.out.items c.match-before.out.items w.in_default-before.ensures (ap (λ v. v.items) w.out-is)
    ])
    c.in_default-next-2.ensures.steps.0 c.hi-from.ensures.value c.loop-span.invariant))

pub returns-in_default-next-2-clause-canonical : goal.returns-in_default-next-2-clause-canonical
returns-in_default-next-2-clause-canonical c = (whole c).canonical

pub returns-in_default-next-2-clause-keys : goal.returns-in_default-next-2-clause-keys
returns-in_default-next-2-clause-keys c = (whole c).keys

pub loop-span-preserved : goal.loop-span-preserved
loop-span-preserved c =
    let s : Interval = c.loop-span.own in
    let t : Interval = c.loop-span.other in
    let lo = max c.loop-span.from s.lo in
    let hi = min s.hi t.lo in
    let ends : c.hi-in-loop-span.result < c.hi.result = gt_from_cmp _ _ (sym c.if-le.ensures) in
    parting_other (c.args.one ∷ c.args.first) c.args.second c.loop-span.out.items c.match-before.out.items s c.loop-span.first t c.loop-span.second (c.in-Some-next-2.next ∷ c.next-else-le.new.self) c.loop-span.from c.hi-from.result (omega arith)
    (elim c.match-before.branch [
      | in-Some-before+in_ok-push w ↦ added_some lo hi c.loop-span.out.items c.match-before.out.items w.in-Some-before.span w.in-Some-before.ensures (ap (λ v. v.items) w.out-is ∙ w.in_ok-push.ensures.items)
      | in_default-before w ↦ added_none lo hi c.loop-span.out.items c.match-before.out.items w.in_default-before.ensures (ap (λ v. v.items) w.out-is)
    ])
    c.in-Some-next-2.ensures.steps c.hi-from.ensures.value c.loop-span.invariant
