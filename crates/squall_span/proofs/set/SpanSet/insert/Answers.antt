use Rattle.std.proofs.Common.{◌∙◌, arith}
use Rattle.squall_span.specs.Stored.{spans_in}
use Rattle.squall_span.proofs.Inserting.{kept_set, inserted_keys}
use Rattle.squall_span.proofs.set.SpanSet.insert.Goals as goal

pub invariant_of-self : goal.invariant_of-self
invariant_of-self c = kept_set c.args.span (spans_in c.self.inside.store) (spans_in c.insert.new.self) c.insert.result (omega arith) (omega arith) c.self.invariant c.insert.ensures.ok c.insert.ensures.err

pub returns-clause-keys : goal.returns-clause-keys
returns-clause-keys c =
    inserted_keys c.args.span (spans_in c.self.inside.store) (spans_in c.insert.new.self) c.args.self.now c.insert.result (omega arith) c.self.invariant.0 (c.self.view_is ∙ c.in_ok-ready_for.ensures) c.insert.ensures.ok
