use Rattle.std.proofs.Common.{ℕ, ◌<◌, ◌-◌, subst, arith}
use Rattle.squall_key.specs.Keys.{top}
use Rattle.squall_plan.specs.declared.range.PlanRange.{PlanRange}
use Rattle.squall_plan_edit.specs.Shares.{owner_shared}
use Rattle.squall_plan_edit.specs.Legs.{IsLeg}
use Rattle.squall_plan_edit.proofs.share.shares.Goals as goal

pub loop-below-smaller : goal.loop-below-smaller
loop-below-smaller c =
    let f : ℕ → ℕ = owner_shared c.args.below c.args.parts.now in
    let leg : PlanRange = c.share_from-leg.result in
    let next : IsLeg f c.loop-below.run.span.hi leg = subst (λ (at : ℕ). IsLeg f at leg) c.hi-in-loop-below.ensures.value c.share_from-leg.ensures in
    let grown = c.in_ok-follow.ensures f c.loop-below.invariant next in
    let less : top - c.follow.new.run.span.hi < top - c.loop-below.run.span.hi = omega (arith, grown.0, next.starts, next.range.0, next.range.1) in
    less

pub loop-below-preserved : goal.loop-below-preserved
loop-below-preserved c =
    let f : ℕ → ℕ = owner_shared c.args.below c.args.parts.now in
    let leg : PlanRange = c.share_from-leg.result in
    let next : IsLeg f c.loop-below.run.span.hi leg = subst (λ (at : ℕ). IsLeg f at leg) c.hi-in-loop-below.ensures.value c.share_from-leg.ensures in
    (c.in_ok-follow.ensures f c.loop-below.invariant next).1
