-- How far a reconfiguration has come, as lines (this project's text form).
use Rattle.std.specs.Prelude.{ℕ, List, ◌++◌, [], length, Bool, true, not, Option, None, Some, codes, if◌then◌else◌}
use Rattle.std.specs.List.{count_by, flat_map}
use Rattle.std.specs.Fmt.{decimal}
use Rattle.squall_span.specs.Spans.{text_of_span}
use Rattle.squall_course.specs.declared.moving.Move.{Move}
use Rattle.squall_status.specs.declared.progress.Progress.{Progress}
use Rattle.squall_status.specs.declared.progress.Progress.TheVariants.{NotStarted, Partial, Complete}
use Rattle.squall_status.specs.declared.progress.MoveStatus.{MoveStatus}
use Rattle.squall_status.specs.declared.subplan.SubplanStatus.{SubplanStatus}
use Rattle.squall_status.specs.declared.text.Shown.{Shown}
use Rattle.squall_status.specs.declared.text.Shown.TheVariants.{EachMove, Waiting}
use Rattle.squall_status.specs.Coming.{is_complete}
use Rattle.squall_status.specs.Shares.{is_over, is_ended, course_share}
use Rattle.squall_status.specs.Summary.{StatusValue, move_keys}

-- which sub-plan is open
abbrev pub open_text : Option ℕ → List ℕ
open_text None = codes "none"
open_text (Some sub) = decimal sub

-- how the line of a course begins: its number, and how many of its moves are complete and of its sub-plans have ended
abbrev pub course_head : ℕ → ℕ → ℕ → ℕ → ℕ → List ℕ
course_head number over moves ended subplans =
    codes "course " ++ (decimal number ++ (codes " moves " ++ (decimal over ++ (codes " of " ++ (decimal moves
    ++ (codes " sub-plans " ++ (decimal ended ++ (codes " of " ++ (decimal subplans ++ codes " open ")))))))))

-- how it ends: how many of its keys are loaded, and the mean of the shares of its moves in thousandths
abbrev pub course_tail : ℕ → ℕ → ℕ → List ℕ
course_tail loaded keys share =
    codes " loaded " ++ (decimal loaded ++ (codes " of " ++ (decimal keys ++ (codes " keys share " ++ (decimal share ++ codes "/1000\n")))))

-- the line of the course, with the sub-plan that is open
abbrev pub course_line : StatusValue → List ℕ
course_line s = course_head s.number (count_by is_over s.moves) (length s.moves) (count_by is_ended s.subplans) (length s.subplans)
    ++ (open_text s.open_sub ++ course_tail s.loaded s.keys (course_share s.moves))

-- the line of a sub-plan: how many of the partitions that receive keys in it are done
abbrev pub subplan_line : SubplanStatus → List ℕ
subplan_line s = codes "sub-plan " ++ (decimal s.sub ++ (codes " receivers " ++ (decimal s.done ++ (codes " of " ++ (decimal s.receivers ++ codes " done\n")))))

-- the lines of sub-plans, one after another
abbrev pub subplan_lines : List SubplanStatus → List ℕ
subplan_lines ss = flat_map subplan_line ss

-- the progress of a move of that many keys
abbrev pub progress_text : ℕ → Progress → List ℕ
progress_text keys NotStarted = codes "not started"
progress_text keys (Partial loaded missing) =
    codes "loaded " ++ (decimal loaded ++ (codes " of " ++ (decimal keys ++ (codes " missing " ++ text_of_span missing))))
progress_text keys Complete = codes "complete"

-- a move: its keys, its source and its destination, and its sub-plan
abbrev pub move_text : Move → List ℕ
move_text m =
    codes "move " ++ (text_of_span m.span ++ (codes " " ++ (decimal m.source ++ (codes " to " ++ (decimal m.dest ++ (codes " sub " ++ decimal m.sub))))))

-- the line of a move, with its progress
abbrev pub move_line : MoveStatus → List ℕ
move_line s = move_text s.moving ++ (codes " " ++ (progress_text (move_keys s) s.progress ++ codes "\n"))

-- whether the move is shown: each is, or each that is not complete
abbrev pub is_shown : Shown → MoveStatus → Bool
is_shown EachMove s = true
is_shown Waiting s = not (is_complete s.progress)

-- the line of a move, if it is shown
abbrev pub shown_line : Shown → MoveStatus → List ℕ
shown_line shown s = if is_shown shown s then move_line s else []

-- the lines of the moves that are shown, one after another
abbrev pub move_lines : Shown → List MoveStatus → List ℕ
move_lines shown ss = flat_map (shown_line shown) ss

-- the course, its sub-plans by rising number, and the moves that are shown, by rising key
abbrev pub status_text : Shown → StatusValue → List ℕ
status_text shown s = course_line s ++ (subplan_lines s.subplans ++ move_lines shown s.moves)
