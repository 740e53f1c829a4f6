use Rattle.std.proofs.Common.{sym, ap, subst, ◌∙◌, arith, ◌||◌}
use Rattle.squall_span.specs.Spans.{IsSet, has, span_has}
use Rattle.squall_span.specs.SpanLaws.{set-insert, has-insert}
use Rattle.squall_span.proofs.ready.ReadySet.insert.Goals as goal

pub invariant_of-self : goal.invariant_of-self
invariant_of-self c = subst IsSet (sym c.insert_ready.ensures.value) (set-insert c.args.span c.self.inside.spans.items (omega arith) (omega arith) c.self.invariant)

pub returns-clause-keys : goal.returns-clause-keys
returns-clause-keys c k =
    ap (λ l. has l k) c.insert_ready.ensures.value
    ∙ has-insert c.args.span c.self.inside.spans.items k (omega arith) c.self.invariant.0
    ∙ ap (λ v. span_has c.args.span k || has v.set k) c.self.view_is
