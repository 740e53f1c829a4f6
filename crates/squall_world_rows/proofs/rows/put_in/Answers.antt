use Rattle.std.proofs.Common.{◌≡◌, ℕ, true, false, OnOk, set, subst, ◌∙◌}
use Rattle.squall_span.specs.Spans.{has, span_has}
use Rattle.squall_store.specs.Memory.{value_at}
use Rattle.squall_world_rows.specs.Seen.{stored_in}
use Rattle.squall_world_rows.proofs.Placed.{put_inside, put_outside}
use Rattle.squall_world_rows.proofs.rows.put_in.Goals as goal

pub returns-clause-inside : goal.returns-clause-inside
returns-clause-inside c =
    subst (λ p. OnOk c.install.result ((k : ℕ) → span_has c.args.span k ≡ true → stored_in (set c.reach.new.rows.items c.get-part.result c.install.new.self) p k ≡ value_at c.args.batch.now k)) c.get-part.ensures.value
    (put_inside c.args.rows.now.items c.reach.new.rows.items c.in_ok-reach.ensures.same c.get-part.result c.index_mut.result.now c.install.new.self c.in_ok-reach.ensures.reached c.index_mut.ensures.value c.install.result c.args.span c.args.batch.now
    (subst (λ ks. OnOk c.install.result ((k : ℕ) → has ks k ≡ true → value_at c.install.new.self k ≡ value_at c.args.batch.now k)) c.in_ok-keys.ensures c.install.ensures.inside))

pub returns-clause-outside : goal.returns-clause-outside
returns-clause-outside c = λ q k apart.
    put_outside c.args.rows.now.items c.reach.new.rows.items c.in_ok-reach.ensures.same c.get-part.result c.index_mut.result.now c.install.new.self c.in_ok-reach.ensures.reached c.index_mut.ensures.value c.args.span
    (subst (λ ks. (j : ℕ) → has ks j ≡ false → value_at c.install.new.self j ≡ value_at c.index_mut.result.now j) c.in_ok-keys.ensures c.install.ensures.outside)
    q k (λ both. apart (both.0 ∙ c.get-part.ensures.value, both.1))
