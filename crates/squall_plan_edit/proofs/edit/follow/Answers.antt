use Rattle.std.proofs.Common.{◌≡◌, ◌++◌, ℕ, List, [], ◌∷◌, refl, sym, ap, subst, ◌∙◌}
use Rattle.std.proofs.lemmas.Bool.{false≢true}
use Rattle.squall_key.specs.Lemmas.{same_number}
use Rattle.squall_plan.specs.declared.range.PlanRange.{PlanRange}
use Rattle.squall_plan.specs.Arranged.{ended_at}
use Rattle.squall_plan_edit.specs.Legs.{AreLegs}
use Rattle.squall_plan_edit.proofs.Legs.{leg_joined, leg_added, equal_parts}
use Rattle.squall_plan_edit.proofs.edit.follow.Goals as goal

pub returns-then-eq : goal.returns-then-eq
returns-then-eq c = λ f are next.
    let run : PlanRange = c.args.run.now in
    let leg : PlanRange = c.args.leg in
    let same : leg.part ≡ run.part = same_number leg.part run.part (sym c.eq.ensures ∙ c.if-eq.true) in
    let joined : AreLegs f 0 leg.span.hi (c.args.legs.now.items ++ ended_at run leg.span.hi ∷ []) = leg_joined f 0 run leg c.args.legs.now.items are next same in
    let is : c.reaching.result ≡ ended_at run leg.span.hi = c.reaching.ensures ∙ ap (λ (hi : ℕ). ended_at run hi) c.hi.ensures.value in
    (ap (λ (r : PlanRange). r.span.hi) is, subst (λ (r : PlanRange). AreLegs f 0 r.span.hi (c.args.legs.now.items ++ r ∷ [])) (sym is) joined)

pub returns : goal.returns
returns c = λ f are next.
    let run : PlanRange = c.args.run.now in
    let leg : PlanRange = c.args.leg in
    let added : AreLegs f 0 leg.span.hi ((c.args.legs.now.items ++ run ∷ []) ++ leg ∷ []) =
    leg_added f 0 run leg c.args.legs.now.items are next (λ e. false≢true (sym (sym c.eq.ensures ∙ c.if-eq.false) ∙ equal_parts leg.part run.part e)) in
    (refl, subst (λ (rs : List PlanRange). AreLegs f 0 leg.span.hi (rs ++ leg ∷ [])) (sym c.in_ok-push.ensures.items) added)
