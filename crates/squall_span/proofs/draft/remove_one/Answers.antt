use Rattle.std.proofs.Common.{sym, subst, arith}
use Rattle.squall_span.specs.Spans.{IsSet}
use Rattle.squall_span.proofs.Removing.{set_without}
use Rattle.squall_span.proofs.draft.remove_one.Goals as goal

pub returns-clause-set : goal.returns-clause-set
returns-clause-set c = subst IsSet (sym c.remove_ready.ensures.value) (set_without c.args.span c.args.list.now.items (omega arith) (omega arith) c.requires.set)
