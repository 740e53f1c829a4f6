use Rattle.squall_span.specs.SpanLaws.{set-below, set-from, has-below, has-from}
use Rattle.squall_span.proofs.laws.split_makes_sets.Goals as goal

pub returns-clause-first : goal.returns-clause-first
returns-clause-first c = set-below

pub returns-clause-second : goal.returns-clause-second
returns-clause-second c = set-from

pub returns-clause-below : goal.returns-clause-below
returns-clause-below c = has-below

pub returns-clause-others : goal.returns-clause-others
returns-clause-others c = has-from
