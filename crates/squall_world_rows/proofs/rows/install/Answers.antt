use Rattle.std.proofs.Common.{◌≡◌, ℕ, true, false, OnOk, Some, refl, sym, subst, ◌∙◌}
use Rattle.std.specs.List.{slice_get}
use Rattle.std.proofs.lemmas.Option.{slice_get_read}
use Rattle.squall_span.specs.Spans.{span_has}
use Rattle.squall_store.specs.Memory.{value_at}
use Rattle.squall_world_rows.specs.Seen.{stored_in, carried_by, brings}
use Rattle.squall_world_rows.proofs.Placed.{brought, left_alone}
use Rattle.squall_world_rows.proofs.rows.install.Goals as goal

pub returns-clause-inside : goal.returns-clause-inside
returns-clause-inside c =
    let s = c.in-Some.sent.now in
    let here : slice_get c.args.sent.now c.args.index ≡ Some s = slice_get_read c.args.sent.now _ c.args.index s refl c.in-Some.ensures.lookup.3.0 c.in-Some.ensures.lookup.1 in
    subst (λ o. OnOk c.put_in.result ((p k : ℕ) → brings o p k ≡ true → stored_in c.put_in.new.rows.items p k ≡ carried_by o k)) (sym here)
    (brought c.put_in.result c.args.rows.now.items c.put_in.new.rows.items s c.if-sent.false
    (subst (λ d. OnOk c.put_in.result ((k : ℕ) → span_has s.chunk.span k ≡ true → stored_in c.put_in.new.rows.items d k ≡ value_at s.rows k)) c.dest.ensures
    (subst (λ l. OnOk c.put_in.result ((k : ℕ) → span_has l k ≡ true → stored_in c.put_in.new.rows.items c.dest.result k ≡ value_at s.rows k)) c.span.ensures c.put_in.ensures.inside)))

pub returns-clause-outside : goal.returns-clause-outside
returns-clause-outside c =
    let s = c.in-Some.sent.now in
    let here : slice_get c.args.sent.now c.args.index ≡ Some s = slice_get_read c.args.sent.now _ c.args.index s refl c.in-Some.ensures.lookup.3.0 c.in-Some.ensures.lookup.1 in
    subst (λ o. (p k : ℕ) → brings o p k ≡ false → stored_in c.put_in.new.rows.items p k ≡ stored_in c.args.rows.now.items p k) (sym here)
    (left_alone c.args.rows.now.items c.put_in.new.rows.items s c.if-sent.false
    (λ p k apart. c.put_in.ensures.outside p k (λ both. apart (both.0 ∙ c.dest.ensures, subst (λ l. span_has l k ≡ true) c.span.ensures both.1))))
