use Rattle.std.proofs.Common.{sym, ap, subst, ◌∙◌, arith, ◌&&◌, not}
use Rattle.squall_span.specs.Spans.{IsSet, has, span_has}
use Rattle.squall_span.proofs.Removing.{set_without, keys_without}
use Rattle.squall_span.proofs.ready.ReadySet.remove.Goals as goal

pub invariant_of-self : goal.invariant_of-self
invariant_of-self c = subst IsSet (sym c.remove_ready.ensures.value) (set_without c.args.span c.self.inside.spans.items (omega arith) (omega arith) c.self.invariant)

pub returns-clause-keys : goal.returns-clause-keys
returns-clause-keys c k =
    ap (λ l. has l k) c.remove_ready.ensures.value
    ∙ keys_without c.args.span c.self.inside.spans.items k
    ∙ ap (λ v. has v.set k && not (span_has c.args.span k)) c.self.view_is
