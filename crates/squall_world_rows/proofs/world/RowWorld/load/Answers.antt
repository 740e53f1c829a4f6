use Rattle.std.proofs.lemmas.List.{with_items_is}
use Rattle.std.specs.Vec.{with_items}
use Rattle.std.proofs.Common.{◌≡◌, ◌<◌, ℕ, true, false, length, refl, sym, ap, subst, ◌∙◌, rules}
use Rattle.std.specs.List.{slice_get}
use Rattle.squall_protocol.specs.declared.event.Event.TheVariants.{Load}
use Rattle.squall_rows.specs.RowSteps.{PlainStep, RestartStep}
use Rattle.squall_world_rows.specs.Seen.{seen, stored_in, carried_by, brings, sent_after, IsLoad}
use Rattle.squall_world_rows.specs.Runs.{IsRowWorld}
use Rattle.squall_world_rows.proofs.Slots.{sent_length}
use Rattle.squall_world_rows.proofs.Going.{net_with, not_loaded, load_goes, load_within, anyhow}
use Rattle.squall_world_rows.proofs.world.RowWorld.load.Goals as goal

pub invariant_of-self : goal.invariant_of-self
invariant_of-self c =
    let n = net_with c.self.inside.world c.self.inside.rows.items c.self.inside.sent.items in
    (not_loaded n c.self.invariant c.promised.ensures.reached c.args.chunk c.install.new.rows.items (subst (λ l. (p k : ℕ) → brings (slice_get l c.args.chunk) p k ≡ false → stored_in c.install.new.rows.items p k ≡ stored_in c.self.inside.rows.items p k) c.deref.ensures.value c.install.ensures.outside) c.self.inside.world c.self.inside.sent.items refl refl).1

pub returns-in_err-install-clause-err : goal.returns-in_err-install-clause-err
returns-in_err-install-clause-err c =
    let n = net_with c.self.inside.world c.self.inside.rows.items c.self.inside.sent.items in
    let m = net_with c.self.inside.world c.install.new.rows.items c.self.inside.sent.items in
    anyhow (RestartStep (seen c.args.self.now) (seen m)) c.from_residual.result
    (subst (λ k. RestartStep (seen k) (seen m)) c.self.view_is (not_loaded n c.self.invariant c.promised.ensures.reached c.args.chunk c.install.new.rows.items (subst (λ l. (p k : ℕ) → brings (slice_get l c.args.chunk) p k ≡ false → stored_in c.install.new.rows.items p k ≡ stored_in c.self.inside.rows.items p k) c.deref.ensures.value c.install.ensures.outside) c.self.inside.world c.self.inside.sent.items refl refl).0)

pub invariant_of-self-in_err-answer : goal.invariant_of-self-in_err-answer
invariant_of-self-in_err-answer c =
    let n = net_with c.self.inside.world c.self.inside.rows.items c.self.inside.sent.items in
    (not_loaded n c.self.invariant c.promised.ensures.reached c.args.chunk c.install.new.rows.items (subst (λ l. (p k : ℕ) → brings (slice_get l c.args.chunk) p k ≡ false → stored_in c.install.new.rows.items p k ≡ stored_in c.self.inside.rows.items p k) c.deref.ensures.value c.install.ensures.outside) c.load.new.self c.self.inside.sent.items c.in_err-answer.ensures.err refl).1

pub returns-in_err-answer-clause-err : goal.returns-in_err-answer-clause-err
returns-in_err-answer-clause-err c =
    let n = net_with c.self.inside.world c.self.inside.rows.items c.self.inside.sent.items in
    let m = net_with c.load.new.self c.install.new.rows.items c.self.inside.sent.items in
    anyhow (RestartStep (seen c.args.self.now) (seen m)) c.from_residual-in_err-answer.result
    (subst (λ k. RestartStep (seen k) (seen m)) c.self.view_is (not_loaded n c.self.invariant c.promised.ensures.reached c.args.chunk c.install.new.rows.items (subst (λ l. (p k : ℕ) → brings (slice_get l c.args.chunk) p k ≡ false → stored_in c.install.new.rows.items p k ≡ stored_in c.self.inside.rows.items p k) c.deref.ensures.value c.install.ensures.outside) c.load.new.self c.self.inside.sent.items c.in_err-answer.ensures.err refl).0)

pub note-requires : goal.note-requires
note-requires c =
    let n = net_with c.self.inside.world c.self.inside.rows.items c.self.inside.sent.items in
    λ is_load. subst (λ l. c.args.chunk < length l) (sym c.deref_mut.ensures.value) (load_within n c.self.invariant c.promised.ensures.reached c.args.chunk c.in_ok-answer.answer c.load.new.self c.in_ok-answer.ensures.ok is_load)

pub invariant_of-self-2 : goal.invariant_of-self-2
invariant_of-self-2 c =
    let n = net_with c.self.inside.world c.self.inside.rows.items c.self.inside.sent.items in
    let size : length c.note.new.sent ≡ c.self.inside.sent.len = ap length c.note.ensures ∙ sent_length c.in_ok-answer.answer c.args.chunk c.deref_mut.result.now ∙ (search rules) in
    let sent_is : (with_items c.self.inside.sent c.note.new.sent).items ≡ c.note.new.sent = with_items_is c.self.inside.sent c.note.new.sent size in
    subst (λ l. IsRowWorld (net_with c.load.new.self c.install.new.rows.items l)) (sym (sent_is ∙ c.note.ensures ∙ ap (sent_after c.in_ok-answer.answer c.args.chunk) c.deref_mut.ensures.value))
    (load_goes n c.self.invariant c.promised.ensures.reached c.args.chunk c.install.new.rows.items (subst (λ l. (p k : ℕ) → brings (slice_get l c.args.chunk) p k ≡ false → stored_in c.install.new.rows.items p k ≡ stored_in c.self.inside.rows.items p k) c.deref.ensures.value c.install.ensures.outside) (subst (λ l. (p k : ℕ) → brings (slice_get l c.args.chunk) p k ≡ true → stored_in c.install.new.rows.items p k ≡ carried_by (slice_get l c.args.chunk) k) c.deref.ensures.value c.in_ok-install.ensures.inside) c.in_ok-answer.answer c.load.new.self c.in_ok-answer.ensures.ok).kept

pub returns-clause-ok : goal.returns-clause-ok
returns-clause-ok c =
    let n = net_with c.self.inside.world c.self.inside.rows.items c.self.inside.sent.items in
    let size : length c.note.new.sent ≡ c.self.inside.sent.len = ap length c.note.ensures ∙ sent_length c.in_ok-answer.answer c.args.chunk c.deref_mut.result.now ∙ (search rules) in
    let sent_is : (with_items c.self.inside.sent c.note.new.sent).items ≡ c.note.new.sent = with_items_is c.self.inside.sent c.note.new.sent size in
    subst (λ l. PlainStep (seen c.args.self.now) (Load c.args.chunk) c.in_ok-answer.answer (seen (net_with c.load.new.self c.install.new.rows.items l))) (sym (sent_is ∙ c.note.ensures ∙ ap (sent_after c.in_ok-answer.answer c.args.chunk) c.deref_mut.ensures.value))
    (subst (λ k. PlainStep (seen k) (Load c.args.chunk) c.in_ok-answer.answer (seen (net_with c.load.new.self c.install.new.rows.items (sent_after c.in_ok-answer.answer c.args.chunk c.self.inside.sent.items)))) c.self.view_is
    (load_goes n c.self.invariant c.promised.ensures.reached c.args.chunk c.install.new.rows.items (subst (λ l. (p k : ℕ) → brings (slice_get l c.args.chunk) p k ≡ false → stored_in c.install.new.rows.items p k ≡ stored_in c.self.inside.rows.items p k) c.deref.ensures.value c.install.ensures.outside) (subst (λ l. (p k : ℕ) → brings (slice_get l c.args.chunk) p k ≡ true → stored_in c.install.new.rows.items p k ≡ carried_by (slice_get l c.args.chunk) k) c.deref.ensures.value c.in_ok-install.ensures.inside) c.in_ok-answer.answer c.load.new.self c.in_ok-answer.ensures.ok).step)
