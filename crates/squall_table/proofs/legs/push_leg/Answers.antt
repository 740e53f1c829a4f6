use Rattle.std.proofs.Common.{◌≡◌, ◌≢◌, ◌-◌, get_or, sym, ap, ◌∙◌, subst, arith}
use Rattle.std.proofs.lemmas.Bool.Decides.{nat_tests}
use Rattle.std.proofs.lemmas.List.{get_or_default}
use Rattle.squall_plan.specs.declared.range.PlanRange.{PlanRange}
use Rattle.squall_table.specs.Legs.{Legs}
use Rattle.squall_table.proofs.Pushed.{joined, must_join, pushed}
use Rattle.squall_table.proofs.legs.push_leg.Goals as goal
use Rattle.squall_table.proofs.legs.push_leg.Goals.{then-count-gt0+then-eq+in_default-new, then-count-gt0+else-eq, else-count-gt0}

pub returns-in-Some-new : goal.returns-in-Some-new
returns-in-Some-new c f from is l =
    let same : c.index.result.now.part ≡ c.args.part = let e = c.if-eq.ensures in grind (arith, nat_tests) in
    joined f from c.args.lo c.args.hi c.lo.result c.args.part (c.len-count.result - 1) c.args.out.now.items c.index.result.now c.in-Some-new.span (omega arith) c.index.ensures same c.lo.ensures.value (sym c.new-then-eq.ensures ∙ c.in-Some-new.is) (omega arith) is l

pub returns : goal.returns
returns c f from is l =
    let xs = c.args.out.now.items in
    subst (λ zs. Legs f from c.args.hi zs) (sym c.in_ok-push.ensures.items) (pushed f from c.args.lo c.args.hi c.args.part xs c.in-Some.span (sym c.new.ensures ∙ c.in-Some.is) (λ n d e. elim c.if-count-gt0.branch [
      | then-count-gt0+then-eq+in_default-new w ↦ absurd (must_join f from c.args.lo c.args.hi w.lo.result (c.len-count.result - 1) xs w.index.result.now (omega arith) w.index.ensures w.lo.ensures.value (sym w.new-then-eq.ensures ∙ w.in_default-new.is) (omega arith) l)
      | then-count-gt0+else-eq w ↦
          let at : c.len-count.result - 1 ≡ n = omega arith in
          let other : w.index.result.now.part ≢ c.args.part = let e = w.if-eq.ensures in grind (arith, nat_tests) in
          subst (λ (t : PlanRange). t.part ≢ c.args.part) (w.index.ensures ∙ ap (λ i. get_or xs i w.index.result.now) at ∙ get_or_default xs n w.index.result.now d (omega arith)) other
      | else-count-gt0 w ↦ absurd (omega arith)
    ]) is l)
