-- How far the keys of a span have come (this project).
use Rattle.std.specs.Prelude.{◌≡◌, ℕ, true, false, List}
use Rattle.squall_span.specs.Spans.{Interval, span_has, has}
use Rattle.squall_course.specs.declared.status.Status.{Status}
use Rattle.squall_course.specs.declared.status.Status.TheVariants.{NotStarted, Partial, Complete}

-- no key of the span is in the set; or some are and some aren't; or each is
abbrev pub IsStatus : Interval → List Interval → Status → Type 0
IsStatus span set NotStarted = (k : ℕ) → span_has span k ≡ true → has set k ≡ false
IsStatus span set Partial = ((k : ℕ) × (span_has span k ≡ true) × (has set k ≡ true)) × ((k : ℕ) × (span_has span k ≡ true) × (has set k ≡ false))
IsStatus span set Complete = (k : ℕ) → span_has span k ≡ true → has set k ≡ true
