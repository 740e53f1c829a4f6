use Rattle.std.proofs.Common.{ℕ, ◌<◌, ◌-◌, subst, arith}
use Rattle.squall_key.specs.Keys.{top}
use Rattle.squall_plan.specs.declared.range.PlanRange.{PlanRange}
use Rattle.squall_plan_edit.specs.Moved.{owner_after}
use Rattle.squall_plan_edit.specs.Legs.{IsLeg}
use Rattle.squall_plan_edit.proofs.edit.legs.Goals as goal

pub loop-leg-smaller : goal.loop-leg-smaller
loop-leg-smaller c =
    let f : ℕ → ℕ = owner_after c.args.given.now c.args.old.now in
    let leg : PlanRange = c.leg_at-leg.result in
    let next : IsLeg f c.loop-leg.run.span.hi leg = subst (λ (at : ℕ). IsLeg f at leg) c.hi-in-loop-leg.ensures.value c.leg_at-leg.ensures in
    let grown = c.in_ok-follow.ensures f c.loop-leg.invariant next in
    let less : top - c.follow.new.run.span.hi < top - c.loop-leg.run.span.hi = omega (arith, grown.0, next.starts, next.range.0, next.range.1) in
    less

pub loop-leg-preserved : goal.loop-leg-preserved
loop-leg-preserved c =
    let f : ℕ → ℕ = owner_after c.args.given.now c.args.old.now in
    let leg : PlanRange = c.leg_at-leg.result in
    let next : IsLeg f c.loop-leg.run.span.hi leg = subst (λ (at : ℕ). IsLeg f at leg) c.hi-in-loop-leg.ensures.value c.leg_at-leg.ensures in
    (c.in_ok-follow.ensures f c.loop-leg.invariant next).1
