use Rattle.std.proofs.Common.{sym, subst, arith}
use Rattle.squall_span.specs.Spans.{IsSet}
use Rattle.squall_span.specs.SpanLaws.{set-insert}
use Rattle.squall_span.proofs.draft.insert_one.Goals as goal

pub returns-clause-set : goal.returns-clause-set
returns-clause-set c = subst IsSet (sym c.insert_ready.ensures.value) (set-insert c.args.span c.args.list.now.items (omega arith) (omega arith) c.requires.set)
