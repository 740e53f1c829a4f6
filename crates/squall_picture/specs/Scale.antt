-- The positions of keys in a picture (this project). All lengths are whole units.
use Rattle.std.specs.Prelude.{ℕ, ◌+◌, ◌-◌, ◌*◌, ◌/◌, ◌%◌, ◌==◌, ◌&&◌, ◌||◌, nat_lt, nat_le, max, Bool, false, List, [], ◌∷◌, if◌then◌else◌}
use Rattle.std.specs.List.{count_by, insert, slice_get}
use Rattle.std.specs.Option.{option_map_or}
use Rattle.squall_key.specs.Keys.{top}
use Rattle.squall_span.specs.Spans.{Interval}
use Rattle.squall_plan.specs.declared.range.PlanRange.{PlanRange}

-- ---- the bounds of both plans

-- how many of the bounds lie below this one: the columns to its left
abbrev pub column : List ℕ → ℕ → ℕ
column ts b = count_by (λ t. nat_lt t b) ts

-- the bound follows those that lie below it
abbrev pub is_tick : List ℕ → ℕ → Bool
is_tick ts b = option_map_or (λ t. t == b) (slice_get ts (column ts b)) false

-- the bounds with this one, behind those that lie below it; the same bounds if it is among them
abbrev pub with_tick : List ℕ → ℕ → List ℕ
with_tick ts b = if is_tick ts b then ts else insert ts (column ts b) b

-- the bounds with both of each range
abbrev pub with_ranges : List ℕ → List PlanRange → List ℕ
with_ranges ts [] = ts
with_ranges ts (r ∷ rs) = with_ranges (with_tick (with_tick ts r.span.lo) r.span.hi) rs

-- the bounds of both plans, by rising rank, each once
abbrev pub ticks : List PlanRange → List PlanRange → List ℕ
ticks old new = with_ranges (with_ranges [] old) new

-- ---- lengths

-- how many columns there are: one between each two neighbouring bounds
abbrev pub columns : List ℕ → ℕ
columns ts = column ts top

-- how wide a column is: all of them share 960 units, but each has 1 at least
abbrev pub unit_of : List ℕ → ℕ
unit_of ts = max (960 / max (columns ts) 1) 1

-- how far the bound is from the left
abbrev pub x_of : List ℕ → ℕ → ℕ
x_of ts b = 96 + unit_of ts * column ts b

-- how wide a span is: its columns
abbrev pub width_of : List ℕ → Interval → ℕ
width_of ts s = unit_of ts * (column ts s.hi - column ts s.lo)

-- how wide the picture is, with its margins
abbrev pub total_width : List ℕ → ℕ
total_width ts = 128 + max (unit_of ts * columns ts) 960

-- how much of a width is filled if that many of the keys are loaded, rounded down
abbrev pub filled : ℕ → ℕ → ℕ → ℕ
filled width loaded keys = width * loaded / max keys 1

-- ---- which bounds are written

-- one bound is written for each group of this many columns: 60 units or more
abbrev pub step_of : List ℕ → ℕ
step_of ts = 1 + 59 / unit_of ts

-- the bound is written: the last one is, and each that is whole steps from the first, but none less than a step before the last
abbrev pub is_written : List ℕ → ℕ → Bool
is_written ts b = (column ts b == columns ts) || ((column ts b % step_of ts == 0) && nat_le (step_of ts) (columns ts - column ts b))
