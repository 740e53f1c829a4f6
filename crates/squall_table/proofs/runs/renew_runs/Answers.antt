use Rattle.std.proofs.Common.{ℕ, ◌-◌, List, refl, sym, subst, ◌∙◌, take, drop, arith}
use Rattle.squall_key.specs.Keys.{top}
use Rattle.squall_span.specs.Spans.{Interval}
use Rattle.squall_plan.specs.Ranges.{owner_of, IsCanonical}
use Rattle.squall_course.specs.Moves.{moves_of}
use Rattle.squall_board.specs.MovesRoute.{route_by_moves}
use Rattle.squall_blocks.specs.Entries.{replaced}
use Rattle.squall_table.specs.declared.routes.Heard.TheVariants.{All}
use Rattle.squall_table.specs.LegEntries.{legs_from}
use Rattle.squall_table.specs.LegLaws.{canonical_of_legs}
use Rattle.squall_table.specs.Legs.{Legs, said}
use Rattle.squall_table.specs.Patching.{renewed}
use Rattle.squall_table.proofs.Renewals.{none_renewed, run_is_set, run_renewed, all_renewed}
use Rattle.squall_table.proofs.runs.renew_runs.Goals as goal

pub loop-at-init : goal.loop-at-init
loop-at-init c = (
  refl,
  omega arith,
  none_renewed (route_by_moves c.args.course.now.number c.args.course.now.old (moves_of c.args.course.now.old c.args.course.now.new) (said All)) (legs_from 0 c.args.draft.now.1) c.args.spans.now c.requires.table,
)

pub renew_run-requires-clause-table : goal.renew_run-requires-clause-table
renew_run-requires-clause-table c = subst (λ (es : List (ℕ × ℕ)). IsCanonical (legs_from 0 es)) (sym c.lent-table.ensures) (canonical_of_legs _ _ c.loop-at.invariant.2)

pub renew_run-requires-clause-set : goal.renew_run-requires-clause-set
renew_run-requires-clause-set c = run_is_set c.loop-at.at (c.run_end-end.result - c.loop-at.at) c.args.spans.now c.requires.set

pub loop-at-preserved : goal.loop-at-preserved
loop-at-preserved c =
    let r : ℕ → ℕ = route_by_moves c.args.course.now.number c.args.course.now.old (moves_of c.args.course.now.old c.args.course.now.new) (said All) in
    let part : List Interval = take (c.run_end-end.result - c.loop-at.at) (drop c.loop-at.at c.args.spans.now) in
    let made : Legs (renewed part r (owner_of (legs_from 0 c.loop-at.draft.1))) 0 top (legs_from 0 (replaced c.in_ok-made.made.lo c.in_ok-made.made.hi c.in_ok-made.made.fresh c.loop-at.draft.1)) =
    subst (λ (es : List (ℕ × ℕ)). Legs (renewed part r (owner_of (legs_from 0 es))) 0 top (legs_from 0 (replaced c.in_ok-made.made.lo c.in_ok-made.made.hi c.in_ok-made.made.fresh es))) c.lent-table.ensures c.in_ok-made.ensures.legs in (
      c.in_ok-replace.ensures.before ∙ c.loop-at.invariant.0,
      c.run_end-end.ensures.within,
      run_renewed r (owner_of (legs_from 0 c.args.draft.now.1)) c.args.spans.now part c.loop-at.at c.run_end-end.result (legs_from 0 c.loop-at.draft.1) (legs_from 0 c.replace.new.self.1) (omega (arith, c.run_end-end.ensures.some)) refl
          c.loop-at.invariant.2 (subst (λ (es : List (ℕ × ℕ)). Legs (renewed part r (owner_of (legs_from 0 c.loop-at.draft.1))) 0 top (legs_from 0 es)) (sym c.in_ok-replace.ensures.after) made),
    )

pub returns-clause-legs : goal.returns-clause-legs
returns-clause-legs c =
    all_renewed (route_by_moves c.args.course.now.number c.args.course.now.old (moves_of c.args.course.now.old c.args.course.now.new) (said All)) (owner_of (legs_from 0 c.args.draft.now.1)) c.args.spans.now c.loop-at.at (legs_from 0 c.loop-at.draft.1)
    c.loop-at-test.false c.loop-at.invariant.2
