-- What a picture has around plans and moves: its head, its colours and its legend, in SVG (this project's picture).
use Rattle.std.specs.Prelude.{ℕ, ◌+◌, ◌*◌, ◌==◌, ◌||◌, Bool, length, List, ◌++◌, [], codes, if◌then◌else◌}
use Rattle.std.specs.List.{count_by, flat_map, list_any, range_with_len}
use Rattle.std.specs.Fmt.{decimal}
use Rattle.squall_plan.specs.declared.range.PlanRange.{PlanRange}
use Rattle.squall_status.specs.Shares.{is_over, is_ended, course_share}
use Rattle.squall_status.specs.Summary.{StatusValue}
use Rattle.squall_status.specs.Texts.{open_text}
use Rattle.squall_picture.specs.Bars.{colour_of}

-- ---- the head

-- the outermost tag: how large the picture is
abbrev pub size_text : ℕ → List ℕ
size_text width =
    codes "<svg xmlns='http://www.w3.org/2000/svg' viewBox='0 0 " ++ (decimal width ++ (codes " 348' width='" ++ (decimal width ++ codes "' height='348'")))

-- the rest of it: what names and describes the picture, and its letters
abbrev pub role_text : List ℕ
role_text = codes " role='img' aria-labelledby='squall-title squall-desc' font-family='sans-serif' font-size='10'>\n"

-- the whole tag
abbrev pub svg_text : ℕ → List ℕ
svg_text width = size_text width ++ role_text

-- how many moves of a course are complete, and how many of its sub-plans have ended
abbrev pub ended_text : ℕ → ℕ → ℕ → ℕ → List ℕ
ended_text over moves ended subplans =
    codes "moves " ++ (decimal over ++ (codes " of " ++ (decimal moves ++ (codes ", sub-plans " ++ (decimal ended ++ (codes " of " ++ (decimal subplans ++ codes ", open ")))))))

-- the same, and which sub-plan is open
abbrev pub counts_text : StatusValue → List ℕ
counts_text s = ended_text (count_by is_over s.moves) (length s.moves) (count_by is_ended s.subplans) (length s.subplans) ++ open_text s.open_sub

-- how many of its keys are loaded, and the mean of the shares of its moves in thousandths
abbrev pub share_text : ℕ → ℕ → ℕ → List ℕ
share_text loaded keys share =
    codes ", loaded " ++ (decimal loaded ++ (codes " of " ++ (decimal keys ++ (codes " keys, share " ++ (decimal share ++ codes "/1000")))))

-- the number of the course
abbrev pub number_text : ℕ → List ℕ
number_text number = codes "course " ++ (decimal number ++ codes ": ")

-- the course in a line
abbrev pub summary_text : StatusValue → List ℕ
summary_text s = number_text s.number ++ (counts_text s ++ share_text s.loaded s.keys (course_share s.moves))

-- the name of the picture
abbrev pub title_text : ℕ → List ℕ
title_text number = codes "<title id='squall-title'>course " ++ (decimal number ++ codes "</title>\n<desc id='squall-desc'>")

-- the name of the picture, and what it shows
abbrev pub names_text : StatusValue → List ℕ
names_text s = title_text s.number ++ (summary_text s ++ codes "</desc>\n")

-- ---- how classes look

-- the first three colours
abbrev pub first_colours : List ℕ
first_colours = codes ".c0{fill:#9aa0a6;stroke:#9aa0a6}.c1{fill:#5b9bd5;stroke:#5b9bd5}.c2{fill:#f0a030;stroke:#f0a030}\n"

-- the second three colours
abbrev pub second_colours : List ℕ
second_colours = codes ".c3{fill:#58b368;stroke:#58b368}.c4{fill:#e57373;stroke:#e57373}.c5{fill:#a884d8;stroke:#a884d8}\n"

-- the third three colours
abbrev pub third_colours : List ℕ
third_colours = codes ".c6{fill:#c49a6c;stroke:#c49a6c}.c7{fill:#ec8fc4;stroke:#ec8fc4}.c8{fill:#b5b83d;stroke:#b5b83d}\n"

-- the last three colours
abbrev pub last_colours : List ℕ
last_colours = codes ".c9{fill:#3fb8c5;stroke:#3fb8c5}.c10{fill:#7c8fe0;stroke:#7c8fe0}.c11{fill:#2f9e8f;stroke:#2f9e8f}\n"

-- the twelve colours
abbrev pub palette_text : List ℕ
palette_text = first_colours ++ (second_colours ++ (third_colours ++ last_colours))

-- letters and bars
abbrev pub bar_look : List ℕ
bar_look = codes "text{fill:#111}rect{stroke-width:0}.load{fill-opacity:.8}.bar rect{stroke:#fff;stroke-width:.4}\n"

-- bands
abbrev pub band_look : List ℕ
band_look = codes ".open{fill-opacity:.25;stroke-width:2}.shut{fill-opacity:.1;stroke-width:1;stroke-dasharray:4 3}.thin{stroke-width:0}\n"

-- bounds
abbrev pub tick_look : List ℕ
tick_look = codes ".tick path{stroke:#111}.tick text{text-anchor:end}\n"

-- lines and text
abbrev pub lines_text : List ℕ
lines_text = bar_look ++ (band_look ++ tick_look)

-- the style sheet
abbrev pub style_text : List ℕ
style_text = codes "<style>\n" ++ (palette_text ++ (lines_text ++ codes "</style>\n"))

-- a white sheet, and the beginning of the text on it
abbrev pub sheet_text : ℕ → List ℕ
sheet_text width = codes "<rect width='" ++ (decimal width ++ codes "' height='348' fill='#fff'/>\n<text x='96' y='20' font-size='13'>")

-- a white ground, and on it the course in a line
abbrev pub ground_text : ℕ → StatusValue → List ℕ
ground_text width s = sheet_text width ++ (summary_text s ++ codes "</text>\n")

-- all of the head
abbrev pub head_text : ℕ → StatusValue → List ℕ
head_text width s = svg_text width ++ (names_text s ++ (style_text ++ ground_text width s))

-- ---- the legend

-- some range has a partition of the colour
abbrev pub has_colour : List PlanRange → ℕ → Bool
has_colour rs colour = list_any (λ r. colour_of r.part == colour) rs

-- a partition of one of the plans has the colour
abbrev pub occurs : List PlanRange → List PlanRange → ℕ → Bool
occurs old new colour = has_colour old colour || has_colour new colour

-- a square of the colour
abbrev pub square_text : ℕ → List ℕ
square_text colour = codes "<rect class='c" ++ (decimal colour ++ (codes "' x='" ++ (decimal (206 + 32 * colour) ++ codes "' y='32' width='12' height='12'/>")))

-- its number beside it
abbrev pub beside_text : ℕ → List ℕ
beside_text colour = codes "<text x='" ++ (decimal (222 + 32 * colour) ++ (codes "' y='42'>" ++ (decimal colour ++ codes "</text>\n")))

-- a colour in the legend, if it occurs
abbrev pub swatch_text : List PlanRange → List PlanRange → ℕ → List ℕ
swatch_text old new colour = if occurs old new colour then square_text colour ++ beside_text colour else []

-- the colours of the partitions, by rising number
abbrev pub colours_text : List PlanRange → List PlanRange → List ℕ
colours_text old new = flat_map (swatch_text old new) (range_with_len 0 12)

-- what the lines and the fillings of bands say
abbrev pub signs_text : List ℕ
signs_text =
    codes "<rect class='c0 load' x='96' y='54' width='24' height='12'/><text x='126' y='64'>loaded</text>\n"
    ++ (codes "<rect class='c0 open' x='180' y='54' width='24' height='12'/><text x='210' y='64'>not loaded</text>\n"
    ++ (codes "<rect class='c0 shut' x='280' y='54' width='24' height='12'/><text x='310' y='64'>sub-plan not opened</text>\n"
    ++ codes "<text x='430' y='64'>number in a band: its sub-plan</text>\n"))

-- what comes before the rows
abbrev pub rows_text : List ℕ
rows_text = codes "<text x='40' y='100'>old plan</text>\n<text x='40' y='220'>new plan</text>\n"

-- what the colours are
abbrev pub word_text : List ℕ
word_text = codes "<text x='96' y='42'>partition, modulo 12</text>\n"

-- all of the legend
abbrev pub legend_text : List PlanRange → List PlanRange → List ℕ
legend_text old new = word_text ++ (colours_text old new ++ (signs_text ++ rows_text))
