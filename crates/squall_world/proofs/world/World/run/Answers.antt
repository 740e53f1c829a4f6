use Rattle.std.proofs.Common.{ℕ, ◌+◌, ◌<◌, ◌++◌, ◌∷◌, [], length, take, sym, ap, subst, ◌∙◌, arith}
use Rattle.std.proofs.lemmas.List.{take_all}
use Rattle.squall_world.specs.Runs.{IsRun}
use Rattle.squall_world.specs.Views.{view}
use Rattle.squall_world.proofs.Outcomes.{on_either}
use Rattle.squall_world.proofs.Runs.{no_run, run_on}
use Rattle.squall_world.proofs.world.World.run.Goals as goal

pub loop-event-init : goal.loop-event-init
loop-event-init c = record { run = no_run (view c.args.self.now) c.args.answers.now.items; reached = c.promised.ensures.reached }

pub returns-in_err-reserve-clause-err : goal.returns-in_err-reserve-clause-err
returns-in_err-reserve-clause-err c =
    on_either ((n : ℕ) × (n < length c.args.events.now) × IsRun (view c.args.self.now) (take n c.args.events.now) c.args.answers.now.items (view c.loop-event.self) c.reserve.new.self.items) c.from_residual.result (
      c.loop-event.event-index,
      omega (arith, c.loop-event-test.true),
      subst (λ l. IsRun (view c.args.self.now) (take c.loop-event.event-index c.args.events.now) c.args.answers.now.items (view c.loop-event.self) l) (sym c.in_err-reserve.ensures.items) c.loop-event.invariant.run,
    )

pub returns-in_err-answer-clause-err : goal.returns-in_err-answer-clause-err
returns-in_err-answer-clause-err c =
    on_either ((n : ℕ) × (n < length c.args.events.now) × IsRun (view c.args.self.now) (take n c.args.events.now) c.args.answers.now.items (view c.step.new.self) c.reserve.new.self.items) c.from_residual-in_err-answer.result (
      c.loop-event.event-index,
      omega (arith, c.loop-event-test.true),
      subst (λ w. IsRun (view c.args.self.now) (take c.loop-event.event-index c.args.events.now) c.args.answers.now.items (view w) c.reserve.new.self.items) (sym c.in_err-answer.ensures.err)
          (subst (λ l. IsRun (view c.args.self.now) (take c.loop-event.event-index c.args.events.now) c.args.answers.now.items (view c.loop-event.self) l) (sym c.in_ok-reserve.ensures.items) c.loop-event.invariant.run),
    )

pub loop-event-preserved : goal.loop-event-preserved
loop-event-preserved c = record {
  run = subst (λ l. IsRun (view c.args.self.now) (take (c.loop-event.event-index + 1) c.args.events.now) c.args.answers.now.items (view c.step.new.self) l)
      (sym (c.push_reserved.ensures.items ∙ ap (λ l. l ++ c.in_ok-answer.answer ∷ []) c.in_ok-reserve.ensures.items))
      (run_on (view c.args.self.now) c.args.events.now c.loop-event.event-index c.args.answers.now.items c.loop-event.answers.items (view c.loop-event.self) c.event-item.result c.in_ok-answer.answer (view c.step.new.self)
      (omega (arith, c.loop-event-test.true)) c.event-item.is c.loop-event.invariant.run c.in_ok-answer.ensures.ok);
  reached = c.step.ensures.reached;
}

pub returns-clause-ok : goal.returns-clause-ok
returns-clause-ok c =
    subst (λ l. IsRun (view c.args.self.now) l c.args.answers.now.items (view c.loop-event.self) c.loop-event.answers.items)
    (take_all c.loop-event.event-index c.args.events.now (omega (arith, c.loop-event-test.false))) c.loop-event.invariant.run
