-- What the program answers, as JSON values (this project's command line). The members of an object are in the order of their
-- names, as `serde_json` writes them.
use Rattle.std.specs.Prelude.{ℕ, List, [], ◌∷◌, ◌++◌, length, map, Bool, true, false, Option, None, Some, codes, if◌then◌else◌}
use Rattle.std.specs.List.{flat_map, count_by}
use Rattle.serde_json.specs.Data.{Data, null, boolean, number, unsigned, string, array, object, member, no_members}
use Rattle.serde_json.specs.View.{items_of}
use Rattle.serde_json.specs.Written.{compact_text}
use Rattle.squall_key.specs.Keys.{text_of_bound}
use Rattle.squall_span.specs.Spans.{Interval}
use Rattle.squall_plan.specs.declared.range.PlanRange.{PlanRange}
use Rattle.squall_course.specs.declared.moving.Move.{Move}
use Rattle.squall_course.specs.Moves.{moves_of}
use Rattle.squall_course.specs.Subplans.{subplan_count}
use Rattle.squall_join.specs.declared.flat.Flat.{Flat}
use Rattle.squall_join.specs.declared.flat.Flat.TheVariants.{Unknown, One, Clash}
use Rattle.squall_report.specs.Issues.{PlanPair}
use Rattle.squall_board.specs.declared.opening.Opening.{Opening}
use Rattle.squall_board.specs.Boards.{BoardValue}
use Rattle.squall_board.specs.Listed.{CellEntry, openings_of, issues_of, cells_of}
use Rattle.squall_status.specs.declared.progress.Progress.{Progress}
use Rattle.squall_status.specs.declared.progress.Progress.TheVariants.{NotStarted, Partial, Complete}
use Rattle.squall_status.specs.declared.progress.MoveStatus.{MoveStatus}
use Rattle.squall_status.specs.declared.subplan.SubplanStatus.{SubplanStatus}
use Rattle.squall_status.specs.declared.text.Shown.{Shown}
use Rattle.squall_status.specs.Texts.{is_shown}
use Rattle.squall_status.specs.Summary.{StatusValue, move_keys, move_loaded, thousandths}
use Rattle.squall_status.specs.Shares.{is_over, are_over, is_ended, course_share}

-- ---- values

-- the text of the value without spaces, on a line
abbrev pub json_line : Data → List ℕ
json_line value = compact_text value ++ codes "\n"

abbrev pub json_of_count : ℕ → Data
json_of_count n = number (unsigned n)

abbrev pub json_of_list : List Data → Data
json_of_list values = array (items_of values)

-- a bound, as it is written in lines
abbrev pub json_of_bound : ℕ → Data
json_of_bound bound = string (text_of_bound bound)

-- the two bounds of a span
abbrev pub json_of_span : Interval → Data
json_of_span s = object (member (codes "hi") (json_of_bound s.hi) (member (codes "lo") (json_of_bound s.lo) no_members))

-- what is refused, and its fault
abbrev pub json_of_refusal : List ℕ → List ℕ → Data
json_of_refusal what fault = object (member (codes "fault") (string fault) (member (codes "refused") (string what) no_members))

-- ---- plans and legs

-- keys and their partition
abbrev pub json_of_range : PlanRange → Data
json_of_range r = object (member (codes "hi") (json_of_bound r.span.hi) (member (codes "lo") (json_of_bound r.span.lo)
    (member (codes "part") (json_of_count r.part) no_members)))

-- the ranges of a plan by rising key
abbrev pub json_of_plan : List PlanRange → Data
json_of_plan rs = object (member (codes "ranges") (json_of_list (map json_of_range rs)) no_members)

-- legs by rising key
abbrev pub json_of_legs : List PlanRange → Data
json_of_legs ls = object (member (codes "legs") (json_of_list (map json_of_range ls)) no_members)

-- ---- courses

-- a move: its keys, where they come from and go to, and its sub-plan
abbrev pub json_of_move : Move → Data
json_of_move m = object (member (codes "from") (json_of_count m.source) (member (codes "hi") (json_of_bound m.span.hi)
    (member (codes "lo") (json_of_bound m.span.lo) (member (codes "sub") (json_of_count m.sub) (member (codes "to") (json_of_count m.dest) no_members)))))

-- the moves between two plans by rising key, and how many sub-plans there are
abbrev pub json_of_course : List PlanRange → List PlanRange → Data
json_of_course old new = object (member (codes "moves") (json_of_list (map json_of_move (moves_of old new)))
    (member (codes "subplan_count") (json_of_count (subplan_count old new)) no_members))

-- ---- how far a course has come

-- how far the keys of a move have come, in words
abbrev pub json_of_state : Progress → List ℕ
json_of_state NotStarted = codes "not started"
json_of_state (Partial loaded missing) = codes "partial"
json_of_state Complete = codes "complete"

-- the first run of keys that are missing, if some are loaded and some are not
abbrev pub json_of_missing : Progress → Data
json_of_missing NotStarted = null
json_of_missing (Partial loaded missing) = json_of_span missing
json_of_missing Complete = null

-- a move, how many keys it has, and how many of them are loaded
abbrev pub json_of_move_status : MoveStatus → Data
json_of_move_status s = object (member (codes "from") (json_of_count s.moving.source) (member (codes "hi") (json_of_bound s.moving.span.hi)
    (member (codes "keys") (json_of_count (move_keys s)) (member (codes "lo") (json_of_bound s.moving.span.lo)
    (member (codes "loaded") (json_of_count (move_loaded s)) (member (codes "missing") (json_of_missing s.progress)
    (member (codes "state") (string (json_of_state s.progress)) (member (codes "sub") (json_of_count s.moving.sub)
    (member (codes "to") (json_of_count s.moving.dest) no_members)))))))))

-- a move, if it is shown
abbrev pub shown_move : Shown → MoveStatus → List Data
shown_move shown s = if is_shown shown s then json_of_move_status s ∷ [] else []

-- a sub-plan: how many partitions receive keys in it, how many of these are done, and whether it is opened
abbrev pub json_of_subplan : SubplanStatus → Data
json_of_subplan s = object (member (codes "done") (json_of_count s.done) (member (codes "opened") (boolean s.opened)
    (member (codes "receivers") (json_of_count s.receivers) (member (codes "sub") (json_of_count s.sub) no_members))))

-- the sub-plan that is open, or null
abbrev pub json_of_open : Option ℕ → Data
json_of_open None = null
json_of_open (Some sub) = json_of_count sub

-- the course, its sub-plans by rising number, and the moves that are shown, by rising key; the counts and shares are those of all
abbrev pub json_of_status : Shown → StatusValue → Data
json_of_status shown s = object (member (codes "complete") (boolean (are_over s.moves)) (member (codes "course") (json_of_count s.number)
    (member (codes "keys") (json_of_count s.keys) (member (codes "loaded") (json_of_count s.loaded)
    (member (codes "move_count") (json_of_count (length s.moves)) (member (codes "moves") (json_of_list (flat_map (shown_move shown) s.moves))
    (member (codes "moves_complete") (json_of_count (count_by is_over s.moves)) (member (codes "open") (json_of_open s.open_sub)
    (member (codes "share") (json_of_count (course_share s.moves)) (member (codes "subplan_count") (json_of_count (length s.subplans))
    (member (codes "subplans") (json_of_list (map json_of_subplan s.subplans))
    (member (codes "subplans_complete") (json_of_count (count_by is_ended s.subplans))
    (member (codes "thousandths") (json_of_count (thousandths s.loaded s.keys)) no_members)))))))))))))

-- ---- boards

-- how many sub-plans of a reconfiguration are opened
abbrev pub json_of_opening : Opening → Data
json_of_opening o = object (member (codes "course") (json_of_count o.number) (member (codes "subplans") (json_of_count o.count) no_members))

-- whether different plans are issued under a number
abbrev pub json_of_issue : ℕ → Bool → Data
json_of_issue n clash = object (member (codes "clash") (boolean clash) (member (codes "course") (json_of_count n) no_members))

-- what is issued under a number, if anything is
abbrev pub items_of_issue : ℕ → Flat PlanPair → List Data
items_of_issue n Unknown = []
items_of_issue n (One pair) = json_of_issue n false ∷ []
items_of_issue n Clash = json_of_issue n true ∷ []

abbrev pub issue_items : ℕ × Flat PlanPair → List Data
issue_items e = items_of_issue e.0 e.1

-- a cell: its number, sub-plan and partition, whether the partition is done, and the keys loaded
abbrev pub json_of_cell : CellEntry → Data
json_of_cell c = object (member (codes "course") (json_of_count c.cell.number) (member (codes "done") (boolean c.complete)
    (member (codes "loaded") (json_of_list (map json_of_span c.spans)) (member (codes "part") (json_of_count c.cell.part)
    (member (codes "sub") (json_of_count c.cell.sub) no_members)))))

abbrev pub json_of_lists : List Opening → List (ℕ × Flat PlanPair) → List CellEntry → Data
json_of_lists os es cs = object (member (codes "cells") (json_of_list (map json_of_cell cs))
    (member (codes "issued") (json_of_list (flat_map issue_items es))
    (member (codes "opened") (json_of_list (map json_of_opening os)) no_members)))

-- what is opened, what is issued, and the cells, each by rising number
abbrev pub json_of_board : BoardValue → Data
json_of_board b = json_of_lists (openings_of b) (issues_of b) (cells_of b)
