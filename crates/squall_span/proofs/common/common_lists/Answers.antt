use Rattle.std.proofs.Common.{sym, subst}
use Rattle.std.proofs.lemmas.List.{take_rest}
use Rattle.squall_span.specs.Spans.{IsCanonical}
use Rattle.squall_span.proofs.Places.{canonical_drop}
use Rattle.squall_span.proofs.common.common_lists.Goals as goal

pub ahead-requires-2-clause-second : goal.ahead-requires-2-clause-second
ahead-requires-2-clause-second c = subst IsCanonical (sym (take_rest c.args.first.now c.ahead.result)) (canonical_drop c.args.first.now c.ahead.result c.requires.first)

pub walk_both-requires-clause-first : goal.walk_both-requires-clause-first
walk_both-requires-clause-first c = subst IsCanonical (sym (take_rest c.args.first.now c.ahead.result)) (canonical_drop c.args.first.now c.ahead.result c.requires.first)

pub walk_both-requires-clause-second : goal.walk_both-requires-clause-second
walk_both-requires-clause-second c = subst IsCanonical (sym (take_rest c.args.second.now c.ahead-2.result)) (canonical_drop c.args.second.now c.ahead-2.result c.requires.second)
