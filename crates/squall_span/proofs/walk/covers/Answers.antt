use Rattle.std.proofs.Common.{◌≡◌, ◌<◌, ◌≤◌, ◌++◌, List, [], ◌∷◌, option_to_list, sym, ap, subst, arith}
use Rattle.std.proofs.lemmas.Bool.{false≢true}
use Rattle.squall_span.specs.Spans.{Interval}
use Rattle.squall_key.specs.Lemmas.{gt_from_cmp, ge_from_cmp}
use Rattle.squall_span.proofs.Walking.{Walking, walking_missed, walking_out, is_none}
use Rattle.squall_span.proofs.walk.covers.Goals as goal

pub returns-in_default-own : goal.returns-in_default-own
returns-in_default-own c =
    let own = is_none c.loop-next.own c.loop-next.there c.in_default-own.is c.loop-next.invariant.own_head in
    let rest : option_to_list c.loop-next.next ++ c.loop-next.wanted ≡ c.in-Some.want ∷ c.loop-next.wanted = ap (λ o. option_to_list o ++ c.loop-next.wanted) c.in-Some.is in
    let w : Walking c.args.there c.args.wanted [] (c.in-Some.want ∷ c.loop-next.wanted) =
    subst (λ (l : List Interval). Walking c.args.there c.args.wanted l (c.in-Some.want ∷ c.loop-next.wanted)) own
    (subst (λ (l : List Interval). Walking c.args.there c.args.wanted (option_to_list c.loop-next.own ++ c.loop-next.there) l) rest c.loop-next.invariant.walk) in
    (λ h. absurd (false≢true h), λ all. absurd (walking_out _ _ c.in-Some.want c.loop-next.wanted w all))

pub returns-else-le : goal.returns-else-le
returns-else-le c =
    let s : Interval = c.in-Some-own.span in
    let t : Interval = c.in-Some.want in
    let own : option_to_list c.loop-next.own ++ c.loop-next.there ≡ s ∷ c.loop-next.there = ap (λ o. option_to_list o ++ c.loop-next.there) c.in-Some-own.is in
    let rest : option_to_list c.loop-next.next ++ c.loop-next.wanted ≡ t ∷ c.loop-next.wanted = ap (λ o. option_to_list o ++ c.loop-next.wanted) c.in-Some.is in
    let w : Walking c.args.there c.args.wanted (s ∷ c.loop-next.there) (t ∷ c.loop-next.wanted) =
    subst (λ (l : List Interval). Walking c.args.there c.args.wanted l (t ∷ c.loop-next.wanted)) own
    (subst (λ (l : List Interval). Walking c.args.there c.args.wanted (option_to_list c.loop-next.own ++ c.loop-next.there) l) rest c.loop-next.invariant.walk) in
    let ends : c.hi-in-Some.result ≤ c.hi.result = ge_from_cmp _ _ (sym c.if-lt.ensures) in
    let starts : c.lo-else-lt.result < c.lo.result = gt_from_cmp _ _ (sym c.if-le.ensures) in
    (λ h. absurd (false≢true h), λ all. absurd (walking_missed _ _ s c.loop-next.there t c.loop-next.wanted (omega arith) (omega arith) w all))
