use Rattle.std.proofs.Common.{◌≡◌, ℕ, take}
use Rattle.std.specs.List.{list_any}
use Rattle.squall_span.specs.Spans.{has}
use Rattle.squall_part.proofs.Awaited.{brings}
use Rattle.squall_part.proofs.log.incoming_keys.Given as goal

abbrev pub invariant-loop-one : goal.invariant-loop-one
invariant-loop-one l = (k : ℕ) → has l.keys k ≡ list_any (brings l.part k) (take l.one-index l.one-items)
