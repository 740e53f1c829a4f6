-- The keys for which two routes differ (this project).
use Rattle.std.specs.Prelude.{◌≡◌, ℕ, nat_lt, ◌==◌, Bool, not, ◌&&◌, List, [], ◌∷◌, map, length, take, if◌then◌else◌}
use Rattle.squall_span.specs.Spans.{Interval, interval, span_has, has, IsCanonical}
use Rattle.squall_c_values.specs.Rooms.{over}
use Rattle.squall_c_values.specs.Values.{firsts_that_fit, c_span}
use Rattle.squall_c_values.specs.declared.spans.CSpan.{CSpan}

-- the routes of the key differ
abbrev pub differs : (ℕ → ℕ) → (ℕ → ℕ) → ℕ → Bool
differs before after k = not (before k == after k)

-- the spans have the keys from lo on, below hi, whose routes differ, and no others: by rising key, none is empty, and none touches the
-- next, so that each is as long as can be
pub record AreChanges (before after : ℕ → ℕ) (lo hi : ℕ) (spans : List Interval) : Type 0 where
  pub longest : IsCanonical spans
  pub keys : (k : ℕ) → has spans k ≡ (span_has (interval lo hi) k && differs before after k)

-- the room was filled with the changes of the routes, as far as they fit
pub record PutsChanges (before after : ℕ → ℕ) (lo hi : ℕ) (old new : List CSpan) (count : ℕ) : Type 0 where
  pub all : List Interval
  pub changes : AreChanges before after lo hi all
  pub put : new ≡ over (firsts_that_fit c_span all old) old
  pub counted : count ≡ length (firsts_that_fit c_span all old)

-- ---- what was given

-- the spans of a room that were written
abbrev pub given : List CSpan → ℕ → List CSpan
given new count = take count new

-- their keys
abbrev pub keys_of : List CSpan → List Interval
keys_of spans = map (λ s. interval s.lo s.hi) spans

-- the end of the last one, or a rank if there is none
abbrev pub last_end : ℕ → List CSpan → ℕ
last_end lo [] = lo
last_end lo (s ∷ ss) = last_end s.hi ss

-- the rank below which each change is written: hi, if the room was not filled
abbrev pub reached : ℕ → ℕ → List CSpan → List CSpan → ℕ → ℕ
reached lo hi old new count = if nat_lt count (length old) then hi else last_end lo (given new count)
