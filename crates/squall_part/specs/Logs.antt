-- Logs of courses: the place of each, and the last one that passes a test (this project).
use Rattle.std.specs.Prelude.{◌≡◌, ℕ, ◌<◌, ◌==◌, ◌&&◌, not, Bool, nat_lt, List, [], ◌∷◌, length, slice_index_or, Option, None, Some, is_some, if◌then◌else◌}
use Rattle.squall_span.specs.Spans.{Interval, has}
use Rattle.squall_plan.specs.Ranges.{owner_of}
use Rattle.squall_course.specs.Change.{Change}
use Rattle.squall_course.specs.Subplans.{moves}
use Rattle.squall_part.specs.Parts.{PartValue, Log, known_to}

abbrev pub has_number : ℕ → Log → Bool
has_number n l = l.course.number == n

-- the log of the course is at the place
pub record IsLogAt (logs : List Log) (c : Change) (at : ℕ) : Type 0 where
  pub within : at < length logs
  pub course : (d : Log) → (slice_index_or logs at d).course ≡ c

-- the number of a log, 0 if there is none
abbrev pub number_in : Option Log → ℕ
number_in None = 0
number_in (Some l) = l.course.number

-- the log, if it passes and has a greater number than the one that was found; else that one
abbrev pub later : (Log → Bool) → Option Log → Log → Option Log
later test found l = if nat_lt (number_in found) l.course.number && test l then Some l else found

-- the log of the greatest number that passes
abbrev pub last_from : (Log → Bool) → Option Log → List Log → Option Log
last_from test found [] = found
last_from test found (l ∷ ls) = last_from test (later test found l) ls

abbrev pub last_of : (Log → Bool) → List Log → Option Log
last_of test logs = last_from test None logs

abbrev pub is_known : PartValue → Log → Bool
is_known p l = is_some (known_to p l.course.number)

-- by its course, which is known, the partition gave the key
abbrev pub gave : PartValue → ℕ → Log → Bool
gave p k l = is_known p l && has l.given k

-- by the course the key comes in to the partition, and it is not among the keys that are loaded
abbrev pub awaits : ℕ → Change → List Interval → ℕ → Bool
awaits id c loaded k = moves c.old c.new k && ((owner_of c.new k == id) && not (has loaded k))

-- the set has these keys, and no other
pub record IsAwaited (id : ℕ) (c : Change) (loaded awaited : List Interval) : Type 0 where
  pub keys : (k : ℕ) → has awaited k ≡ awaits id c loaded k
