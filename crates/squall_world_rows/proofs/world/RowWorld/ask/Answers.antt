use Rattle.std.proofs.Common.{◌<◌, subst, rules, refl, sym, true≢false}
use Rattle.squall_key.specs.Keys.{top}
use Rattle.squall_protocol.specs.Steps.{ServeStep}
use Rattle.squall_protocol.specs.Promises.{IsReached}
use Rattle.squall_rows.specs.RowSteps.{Ask, Ran, RowStep, RestartStep}
use Rattle.squall_store.specs.Memory.{run_on}
use Rattle.squall_world.specs.Views.{view}
use Rattle.squall_world_rows.specs.Seen.{RowNetValue, seen}
use Rattle.squall_world_rows.proofs.Mapped.{ask_maps}
use Rattle.squall_world_rows.proofs.Going.{net_with, anyhow, not_run, not_run_kept, ran_step, ran_kept}
use Rattle.squall_world_rows.proofs.world.RowWorld.ask.Goals as goal

pub invariant_of-self : goal.invariant_of-self
invariant_of-self c = not_run_kept c.self.inside.world c.self.inside.rows.items c.self.inside.sent.items c.self.invariant c.promised.ensures.reached c.args.part c.args.key c.args.after c.args.command.now c.run.new.rows.items c.in_err-reply.field-0.0 (record { reply = tt; made = tt; err = c.in_err-reply.ensures.err; others = c.run.ensures.others })

pub returns-in_err-reply-clause-err : goal.returns-in_err-reply-clause-err
returns-in_err-reply-clause-err c =
    let m = net_with c.self.inside.world c.run.new.rows.items c.self.inside.sent.items in
    anyhow (RestartStep (seen c.args.self.now) (seen m)) c.from_residual.result
    (subst (λ n. RestartStep (seen n) (seen m)) c.self.view_is (not_run c.self.inside.world c.self.inside.rows.items c.self.inside.sent.items c.self.invariant c.promised.ensures.reached c.args.part c.args.key c.args.after c.args.command.now c.run.new.rows.items c.in_err-reply.field-0.0 (record { reply = tt; made = tt; err = c.in_err-reply.ensures.err; others = c.run.ensures.others })))

pub invariant_of-self-2 : goal.invariant_of-self-2
invariant_of-self-2 c =
    ran_kept c.self.inside.world c.self.inside.rows.items c.self.inside.sent.items c.self.invariant c.promised.ensures.reached c.args.part c.args.key c.args.after c.args.command.now c.run.new.rows.items c.in_ok-reply.reply (record { reply = c.in_ok-reply.ensures.reply; made = c.in_ok-reply.ensures.made; err = tt; others = c.run.ensures.others }) (subst (λ k. k < top) c.rank-rank.ensures.value c.rank-rank.ensures.below)
    (subst (λ a. ServeStep (view c.self.inside.world) c.args.part c.args.key c.args.after a (view c.self.inside.world)) (c.is_held.ensures.0 (search rules)) c.serve-answer.ensures)

pub returns-clause-ok : goal.returns-clause-ok
returns-clause-ok c =
    let m = net_with c.self.inside.world c.run.new.rows.items c.self.inside.sent.items in
    (subst (λ n. RowStep run_on (seen n) (Ask c.args.part c.args.key c.args.after c.args.command.now) (Ran c.in_ok-reply.reply) (seen m)) c.self.view_is
    (ran_step c.self.inside.world c.self.inside.rows.items c.self.inside.sent.items c.self.invariant c.promised.ensures.reached c.args.part c.args.key c.args.after c.args.command.now c.run.new.rows.items c.in_ok-reply.reply (record { reply = c.in_ok-reply.ensures.reply; made = c.in_ok-reply.ensures.made; err = tt; others = c.run.ensures.others }) (subst (λ k. k < top) c.rank-rank.ensures.value c.rank-rank.ensures.below)
    (subst (λ a. ServeStep (view c.self.inside.world) c.args.part c.args.key c.args.after a (view c.self.inside.world)) (c.is_held.ensures.0 (search rules)) c.serve-answer.ensures)))

pub returns-clause-map : goal.returns-clause-map
returns-clause-map c =
    let m = net_with c.self.inside.world c.run.new.rows.items c.self.inside.sent.items in
    ask_maps c.args.self.now m c.args.part c.args.key c.args.after c.args.command.now (Ran c.in_ok-reply.reply) (subst (λ (n : RowNetValue). IsReached (view n.net)) c.self.view_is c.promised.ensures.reached)
    (subst (λ n. RowStep run_on (seen n) (Ask c.args.part c.args.key c.args.after c.args.command.now) (Ran c.in_ok-reply.reply) (seen m)) c.self.view_is
    (ran_step c.self.inside.world c.self.inside.rows.items c.self.inside.sent.items c.self.invariant c.promised.ensures.reached c.args.part c.args.key c.args.after c.args.command.now c.run.new.rows.items c.in_ok-reply.reply (record { reply = c.in_ok-reply.ensures.reply; made = c.in_ok-reply.ensures.made; err = tt; others = c.run.ensures.others }) (subst (λ k. k < top) c.rank-rank.ensures.value c.rank-rank.ensures.below)
    (subst (λ a. ServeStep (view c.self.inside.world) c.args.part c.args.key c.args.after a (view c.self.inside.world)) (c.is_held.ensures.0 (search rules)) c.serve-answer.ensures)))

pub returns-then-not-is_held-clause-ok : goal.returns-then-not-is_held-clause-ok
returns-then-not-is_held-clause-ok c = (
  (λ e. true≢false (sym (c.if-not-is_held.ensures.1 e))),
  (
    subst (λ (n : RowNetValue). ServeStep (view n.net) c.args.part c.args.key c.args.after c.serve-answer.result (view n.net)) c.self.view_is c.serve-answer.ensures,
    (λ p k low before after. refl),
    (λ i k x low there flies. refl),
    tt,
  ),
)

pub returns-then-not-is_held-clause-map : goal.returns-then-not-is_held-clause-map
returns-then-not-is_held-clause-map c = (
  (
    (λ e. true≢false (sym (c.if-not-is_held.ensures.1 e))),
    subst (λ (n : RowNetValue). ServeStep (view n.net) c.args.part c.args.key c.args.after c.serve-answer.result (view n.net)) c.self.view_is c.serve-answer.ensures,
  ),
  tt,
  refl,
)
