use Rattle.std.proofs.Common.{◌≡◌, true, sym, ap, subst, ◌∙◌}
use Rattle.squall_protocol.specs.declared.event.Event.TheVariants.{GiveAt}
use Rattle.squall_rows.specs.RowSteps.{PlainStep}
use Rattle.squall_span.specs.Spans.{span_has}
use Rattle.squall_world_rows.specs.Seen.{stored_in, seen, IsKept}
use Rattle.squall_world_rows.specs.Runs.{IsRowWorld}
use Rattle.squall_world_rows.proofs.Going.{net_with, give_at_goes}
use Rattle.squall_world_rows.proofs.world.RowWorld.give_at.Goals as goal

pub invariant_of-self : goal.invariant_of-self
invariant_of-self c = subst (λ l. IsRowWorld (net_with c.self.inside.world c.self.inside.rows.items l)) (sym c.in_err-reserve.ensures.items) c.self.invariant

pub invariant_of-self-in_err-answer : goal.invariant_of-self-in_err-answer
invariant_of-self-in_err-answer c =
    subst (λ w. IsRowWorld (net_with w c.self.inside.rows.items c.reserve.new.self.items)) (sym c.in_err-answer.ensures.err)
    (subst (λ l. IsRowWorld (net_with c.self.inside.world c.self.inside.rows.items l)) (sym c.in_ok-reserve.ensures.items) c.self.invariant)

pub invariant_of-self-2 : goal.invariant_of-self-2
invariant_of-self-2 c =
    let n = net_with c.self.inside.world c.self.inside.rows.items c.self.inside.sent.items in
    (give_at_goes n c.self.invariant c.promised.ensures.reached c.args.part c.args.key c.in_ok-answer.answer c.give_at.new.self c.in_ok-rows.rows c.keep.new.sent.items c.in_ok-answer.ensures.ok
    (subst (λ l. IsKept c.in_ok-answer.answer c.in_ok-rows.rows l c.keep.new.sent.items) c.in_ok-reserve.ensures.items c.keep.ensures)
    (λ k inside. c.in_ok-rows.ensures k (subst (λ s. span_has s k ≡ true) (sym c.one_key.ensures) inside) ∙ ap (λ l. stored_in l c.args.part k) c.deref.ensures.value)).kept

pub returns-clause-ok : goal.returns-clause-ok
returns-clause-ok c =
    let n = net_with c.self.inside.world c.self.inside.rows.items c.self.inside.sent.items in
    subst (λ m. PlainStep (seen m) (GiveAt c.args.part c.args.key) c.in_ok-answer.answer (seen (net_with c.give_at.new.self c.self.inside.rows.items c.keep.new.sent.items))) c.self.view_is
    (give_at_goes n c.self.invariant c.promised.ensures.reached c.args.part c.args.key c.in_ok-answer.answer c.give_at.new.self c.in_ok-rows.rows c.keep.new.sent.items c.in_ok-answer.ensures.ok
    (subst (λ l. IsKept c.in_ok-answer.answer c.in_ok-rows.rows l c.keep.new.sent.items) c.in_ok-reserve.ensures.items c.keep.ensures)
    (λ k inside. c.in_ok-rows.ensures k (subst (λ s. span_has s k ≡ true) (sym c.one_key.ensures) inside) ∙ ap (λ l. stored_in l c.args.part k) c.deref.ensures.value)).step
