-- What a patch of a table does: the legs about a set of keys, and what goes in their place (this project).
use Rattle.std.specs.Prelude.{◌≡◌, ℕ, Bool, true, ◌<◌, ◌≤◌, nat_lt, List, [], ◌∷◌, if◌then◌else◌}
use Rattle.squall_span.specs.Spans.{Interval, has, span_has}
use Rattle.squall_key.specs.Keys.{top}
use Rattle.squall_plan.specs.declared.range.PlanRange.{PlanRange}
use Rattle.squall_plan.specs.Ranges.{owner_of}
use Rattle.squall_course.specs.Change.{Change}
use Rattle.squall_course.specs.Moves.{moves_of}
use Rattle.squall_report.specs.Facts.{Fact}
use Rattle.squall_board.specs.MovesRoute.{route_by_moves}
use Rattle.squall_blocks.specs.Entries.{last_from, up_to}
use Rattle.squall_course.specs.declared.moving.Move.{Move}
use Rattle.squall_table.specs.declared.routes.Heard.TheVariants.{All}
use Rattle.squall_table.specs.Legs.{Legs, said}
use Rattle.squall_table.specs.LegEntries.{legs_from}

-- the bounds of what goes when the keys from a to b are renewed. Each is a bound at which an entry ends, or the least one. The
-- keys right beside those from a to b lie between them, too
pub record IsReach (es : List (ℕ × ℕ)) (a b lo hi : ℕ) : Type 0 where
  pub begins : last_from 0 (up_to lo es) ≡ lo
  pub ends : last_from 0 (up_to hi es) ≡ hi
  pub low : lo ≤ a
  pub before : 0 < a → lo < a
  pub high : b ≤ hi
  pub after : b < top → b < hi
  pub within : hi ≤ top

-- the first span, if any, begins at the bound or later
abbrev pub StartsFrom : ℕ → List Interval → Type 0
StartsFrom bound [] = Unit {0}
StartsFrom bound (s ∷ ss) = bound ≤ s.lo

-- one route for the keys of a set, another for the others
abbrev pub renewed : List Interval → (ℕ → ℕ) → (ℕ → ℕ) → ℕ → ℕ
renewed set inside outside k = if has set k then inside k else outside k

-- the legs of all keys once those of a set are renewed. Keys of the set have their routes by the moves of the course and what is
-- said of them. The others have their routes as among the old legs
abbrev pub IsRenewed : Change → (Fact → Bool) → List Interval → List PlanRange → List PlanRange → Type 0
IsRenewed c heard set old new = Legs (renewed set (route_by_moves c.number c.old (moves_of c.old c.new) heard) (owner_of old)) 0 top new

-- once all keys of moves have come, those of the span are asked for at the partition, whatever the old plan
abbrev pub ComesTo : List Move → Interval → ℕ → Type 0
ComesTo ms s part = (number : ℕ) (old : List PlanRange) (k : ℕ) → span_has s k ≡ true → route_by_moves number old ms (said All) k ≡ part

-- one partition for the keys below a span, one for its own, and one for those above it
abbrev pub about : ℕ → ℕ → ℕ → Interval → ℕ → ℕ
about before inside after s k = if nat_lt k s.lo then before else if nat_lt k s.hi then inside else after

-- the legs at both ends of a span begin and end at these bounds, and have these partitions: the one with the key right below the
-- span, and the one with the key right above it
pub record IsBeside (es : List (ℕ × ℕ)) (s : Interval) (lo before hi after : ℕ) : Type 0 where
  pub reach : IsReach es s.lo s.hi lo hi
  pub below : (k : ℕ) → lo ≤ k → k < s.lo → owner_of (legs_from 0 es) k ≡ before
  pub above : (k : ℕ) → s.hi ≤ k → k < hi → owner_of (legs_from 0 es) k ≡ after
