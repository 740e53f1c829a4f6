use Rattle.std.proofs.Common.{◌≡◌, ℕ, true, false}
use Rattle.squall_span.specs.Spans.{has}
use Rattle.squall_store.specs.Memory.{value_at}
use Rattle.squall_store.proofs.memory.MemoryRowsRows.install.Given as goal

-- keys of the set have the batch's values, but for those of spans that are still to come; other keys have their own
abbrev pub invariant-loop-span : goal.invariant-loop-span
invariant-loop-span l = ((k : ℕ) → has l.keys k ≡ true → has l.span-iterator k ≡ false → value_at l.self k ≡ value_at l.batch k)
    × ((k : ℕ) → has l.keys k ≡ false → value_at l.self k ≡ value_at l.fn.self k)
    × ((k : ℕ) → has l.keys k ≡ false → has l.span-iterator k ≡ false)
