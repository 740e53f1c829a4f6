-- Moves as bands from the old plan to the new one, in SVG (this project's picture).
use Rattle.std.specs.Prelude.{ℕ, nat_lt, Bool, false, List, ◌++◌, [], codes, if◌then◌else◌}
use Rattle.std.specs.List.{flat_map, slice_get}
use Rattle.std.specs.Option.{option_map_or}
use Rattle.std.specs.Fmt.{decimal}
use Rattle.squall_span.specs.Spans.{text_of_span}
use Rattle.squall_course.specs.declared.moving.Move.{Move}
use Rattle.squall_status.specs.declared.progress.MoveStatus.{MoveStatus}
use Rattle.squall_status.specs.declared.subplan.SubplanStatus.{SubplanStatus}
use Rattle.squall_status.specs.Summary.{move_keys, move_loaded}
use Rattle.squall_picture.specs.Scale.{x_of, width_of, filled}
use Rattle.squall_picture.specs.Bars.{colour_of, box_text, number_text}

-- the sub-plan of the number is opened
abbrev pub is_opened : List SubplanStatus → ℕ → Bool
is_opened ss sub = option_map_or (λ s. s.opened) (slice_get ss sub) false

-- what a move is: its keys, its source and its destination, and its sub-plan
abbrev pub move_title : Move → List ℕ
move_title m =
    text_of_span m.span ++ (codes " from " ++ (decimal m.source ++ (codes " to " ++ (decimal m.dest ++ (codes ", sub-plan " ++ decimal m.sub)))))

-- the title of a band: its move, and how many of its keys are loaded
abbrev pub band_title : MoveStatus → List ℕ
band_title s =
    codes "<title>" ++ (move_title s.moving ++ (codes ", loaded " ++ (decimal (move_loaded s)
    ++ (codes " of " ++ (decimal (move_keys s) ++ codes "</title>")))))

-- whether a sub-plan is opened, as a class
abbrev pub opened_text : Bool → List ℕ
opened_text opened = if opened then codes " open" else codes " shut"

-- how a band is outlined: as its sub-plan is opened or not, and without a line if it is narrow
abbrev pub look_text : Bool → ℕ → List ℕ
look_text opened width = opened_text opened ++ (if nat_lt width 8 then codes " thin" else [])

-- the part of a band that shows its loaded keys
abbrev pub load_text : ℕ → ℕ → ℕ → List ℕ
load_text colour x fill = codes "<rect class='c" ++ (decimal colour ++ (codes " load'" ++ box_text x 108 fill 96))

-- all of a band, in outline
abbrev pub outline_text : ℕ → ℕ → ℕ → Bool → List ℕ
outline_text colour x width opened =
    codes "<rect class='c" ++ (decimal colour ++ (look_text opened width ++ (codes "'" ++ box_text x 108 width 96)))

-- the parts of a band
abbrev pub parts_text : ℕ → ℕ → ℕ → ℕ → Bool → ℕ → List ℕ
parts_text colour x width fill opened sub = load_text colour x fill ++ (outline_text colour x width opened ++ number_text x 108 width sub)

-- the band of a move of that width, in the colour of its destination
abbrev pub shape_text : ℕ → ℕ → Bool → MoveStatus → List ℕ
shape_text x width opened s = parts_text (colour_of s.moving.dest) x width (filled width (move_loaded s) (move_keys s)) opened s.moving.sub

-- the group of a band
abbrev pub group_text : ℕ → ℕ → Bool → MoveStatus → List ℕ
group_text x width opened s = codes "<g class='band'>" ++ (band_title s ++ (shape_text x width opened s ++ codes "</g>\n"))

-- the band of a move
abbrev pub band_text : List ℕ → List SubplanStatus → MoveStatus → List ℕ
band_text ts ss s = group_text (x_of ts s.moving.span.lo) (width_of ts s.moving.span) (is_opened ss s.moving.sub) s

-- one band for each move, in their order
abbrev pub bands_text : List ℕ → List SubplanStatus → List MoveStatus → List ℕ
bands_text ts ss ms = flat_map (band_text ts ss) ms
