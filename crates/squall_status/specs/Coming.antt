-- How far the keys of a span have come (this project).
use Rattle.std.specs.Prelude.{◌≡◌, ℕ, ◌-◌, ◌<◌, ◌≤◌, Bool, true, false, ◌&&◌}
use Rattle.squall_key.specs.Keys.{top}
use Rattle.squall_span.specs.Spans.{Interval, span_has, how_many}
use Rattle.squall_status.specs.declared.progress.Progress.{Progress}
use Rattle.squall_status.specs.declared.progress.Progress.TheVariants.{NotStarted, Partial, Complete}

-- how many keys of the span have come
abbrev pub come_count : Interval → (ℕ → Bool) → ℕ
come_count span come = how_many (λ k. span_has span k && come k) top

-- the run is the longest of keys of the span that have not come, from the least of these keys on
pub record IsFirstMissing (span : Interval) (come : ℕ → Bool) (run : Interval) : Type 0 where
  pub some : run.lo < run.hi
  pub from : span.lo ≤ run.lo
  pub upto : run.hi ≤ span.hi
  pub missing : (k : ℕ) → run.lo ≤ k → k < run.hi → come k ≡ false
  pub least : (k : ℕ) → span.lo ≤ k → k < run.lo → come k ≡ true
  pub longest : run.hi < span.hi → come run.hi ≡ true

-- no key of the span has come; or some have, this many, and the others begin with this run; or each has
abbrev pub IsProgress : Interval → (ℕ → Bool) → Progress → Type 0
IsProgress span come NotStarted = (k : ℕ) → span_has span k ≡ true → come k ≡ false
IsProgress span come (Partial loaded missing) = (loaded ≡ come_count span come) × (0 < loaded) × IsFirstMissing span come missing
IsProgress span come Complete = (k : ℕ) → span_has span k ≡ true → come k ≡ true

-- how many keys of the span have come, as its progress says
abbrev pub loaded_in : Interval → Progress → ℕ
loaded_in span NotStarted = 0
loaded_in span (Partial loaded missing) = loaded
loaded_in span Complete = span.hi - span.lo

-- each key has come
abbrev pub is_complete : Progress → Bool
is_complete NotStarted = false
is_complete (Partial loaded missing) = false
is_complete Complete = true
