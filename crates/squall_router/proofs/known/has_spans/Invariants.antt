use Rattle.std.proofs.Common.{◌≡◌, ℕ, true}
use Rattle.squall_span.specs.Spans.{has}
use Rattle.squall_router.proofs.known.has_spans.Given as goal

-- a key of the other set is in this one, or among the spans to come
abbrev pub invariant-loop-span : goal.invariant-loop-span
invariant-loop-span l = (k : ℕ) → has l.wanted k ≡ true → (has l.span-iterator k ≡ true → has l.set k ≡ true) → has l.set k ≡ true
