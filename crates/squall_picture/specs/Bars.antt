-- Plans as rows of bars, in SVG (this project's picture).
use Rattle.std.specs.Prelude.{ℕ, ◌%◌, nat_lt, List, ◌++◌, [], codes, if◌then◌else◌}
use Rattle.std.specs.List.{flat_map}
use Rattle.std.specs.Fmt.{decimal}
use Rattle.squall_key.specs.Keys.{text_of_bound}
use Rattle.squall_span.specs.Spans.{text_of_span}
use Rattle.squall_plan.specs.declared.range.PlanRange.{PlanRange}
use Rattle.squall_picture.specs.Scale.{x_of, width_of, is_written}

-- which of the twelve colours a partition has
abbrev pub colour_of : ℕ → ℕ
colour_of part = part % 12

-- the position and the size of a rectangle
abbrev pub box_text : ℕ → ℕ → ℕ → ℕ → List ℕ
box_text x y width height =
    codes " x='" ++ (decimal x ++ (codes "' y='" ++ (decimal y
    ++ (codes "' width='" ++ (decimal width ++ (codes "' height='" ++ (decimal height ++ codes "'/>")))))))

-- a number in a rectangle that is wide enough for it
abbrev pub number_text : ℕ → ℕ → ℕ → ℕ → List ℕ
number_text x y width number =
    if nat_lt width 24 then [] else
    codes "<text x='" ++ (decimal x ++ (codes "' y='" ++ (decimal y ++ (codes "' dx='4' dy='16'>" ++ (decimal number ++ codes "</text>")))))

-- the title of a bar: its partition and its keys
abbrev pub bar_title : PlanRange → List ℕ
bar_title r = codes "<title>partition " ++ (decimal r.part ++ (codes ": " ++ (text_of_span r.span ++ codes "</title>")))

-- the beginning of a rectangle of the colour
abbrev pub rect_text : ℕ → List ℕ
rect_text colour = codes "<rect class='c" ++ (decimal colour ++ codes "'")

-- the rectangle of a bar, and its partition
abbrev pub bar_rect : ℕ → ℕ → ℕ → ℕ → ℕ → List ℕ
bar_rect colour x y width part = rect_text colour ++ (box_text x y width 24 ++ number_text x y width part)

-- the group of a bar
abbrev pub bar_group : ℕ → ℕ → ℕ → ℕ → ℕ → PlanRange → List ℕ
bar_group colour x y width part r = codes "<g class='bar'>" ++ (bar_title r ++ (bar_rect colour x y width part ++ codes "</g>\n"))

-- the bar of a range, that far from the top, in the colour of its partition
abbrev pub bar_text : List ℕ → ℕ → PlanRange → List ℕ
bar_text ts y r = bar_group (colour_of r.part) (x_of ts r.span.lo) y (width_of ts r.span) r.part r

-- the bars of a plan, that far from the top
abbrev pub bars_text : List ℕ → ℕ → List PlanRange → List ℕ
bars_text ts y rs = flat_map (bar_text ts y) rs

-- ---- the axis

-- a bound at a place
abbrev pub mark_text : ℕ → ℕ → List ℕ
mark_text x t =
    codes "<g class='tick' transform='translate(" ++ (decimal x ++ (codes " 228)'><path d='M0 0v6'/><text transform='translate(3 14)rotate(-45)'>"
    ++ (text_of_bound t ++ codes "</text></g>\n")))

-- a bound at its place, if it is written
abbrev pub tick_text : List ℕ → ℕ → List ℕ
tick_text ts t = if is_written ts t then mark_text (x_of ts t) t else []

-- the bounds along the axis, of all these
abbrev pub ticks_text : List ℕ → List ℕ → List ℕ
ticks_text ts us = flat_map (tick_text ts) us
