use Rattle.std.proofs.Common.{◌∙◌, arith}
use Rattle.squall_span.specs.Stored.{spans_in}
use Rattle.squall_span.proofs.Removing.{kept_set, removed_keys}
use Rattle.squall_span.proofs.set.SpanSet.remove.Goals as goal

pub invariant_of-self : goal.invariant_of-self
invariant_of-self c = kept_set c.args.span (spans_in c.self.inside.store) (spans_in c.remove.new.self) c.remove.result (omega arith) (omega arith) c.self.invariant c.remove.ensures.ok c.remove.ensures.err

pub returns-clause-keys : goal.returns-clause-keys
returns-clause-keys c =
    removed_keys c.args.span (spans_in c.self.inside.store) (spans_in c.remove.new.self) c.args.self.now c.remove.result (c.self.view_is ∙ c.in_ok-spread.ensures) c.remove.ensures.ok
