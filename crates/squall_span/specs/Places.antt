-- Places in the list of a set's spans (this project).
use Rattle.std.specs.Prelude.{◌≡◌, ℕ, ◌<◌, ◌≤◌, ◌&&◌, nat_lt, nat_le, List, length, slice_index_or}
use Rattle.squall_key.specs.Search.{EndedBy}
use Rattle.squall_span.specs.Spans.{Interval, has, IsCanonical}

-- the spans before the place end at the bound or before it, the others beyond it
abbrev pub Ended : List Interval → ℕ → ℕ → Type 0
Ended xs bound place = EndedBy (λ s. s.hi) xs bound place

-- the spans before the place end before the bound, the others at it or beyond it
pub record Apart (xs : List Interval) (bound place : ℕ) : Type 0 where
  pub within : place ≤ length xs
  pub before : (j : ℕ) (d : Interval) → j < place → (slice_index_or xs j d).hi < bound
  pub from : (j : ℕ) (d : Interval) → place ≤ j → j < length xs → bound ≤ (slice_index_or xs j d).hi

-- the spans before the place start at the bound or before it, the others beyond it
pub record Started (xs : List Interval) (bound place : ℕ) : Type 0 where
  pub within : place ≤ length xs
  pub before : (j : ℕ) (d : Interval) → j < place → (slice_index_or xs j d).lo ≤ bound
  pub from : (j : ℕ) (d : Interval) → place ≤ j → j < length xs → bound < (slice_index_or xs j d).lo

-- two sets: the keys of xs below the bound, and the others
pub record IsCut (xs : List Interval) (bound : ℕ) (below others : List Interval) : Type 0 where
  pub below_canonical : IsCanonical below
  pub others_canonical : IsCanonical others
  pub below_keys : (k : ℕ) → has below k ≡ (has xs k && nat_lt k bound)
  pub others_keys : (k : ℕ) → has others k ≡ (has xs k && nat_le bound k)
