-- How far a course has come, counted by its moves and sub-plans (this project).
use Rattle.std.specs.Prelude.{ℕ, ◌/◌, ◌==◌, min, Bool, List, length, if◌then◌else◌}
use Rattle.std.specs.List.{count_by, sum_by}
use Rattle.squall_status.specs.declared.progress.MoveStatus.{MoveStatus}
use Rattle.squall_status.specs.declared.subplan.SubplanStatus.{SubplanStatus}
use Rattle.squall_status.specs.Coming.{is_complete}
use Rattle.squall_status.specs.Summary.{move_keys, move_loaded, thousandths}

-- whether each key of the move is loaded
abbrev pub is_over : MoveStatus → Bool
is_over s = is_complete s.progress

-- whether each of the moves is
abbrev pub are_over : List MoveStatus → Bool
are_over ss = count_by is_over ss == length ss

-- whether each partition that receives keys in the sub-plan is done
abbrev pub is_ended : SubplanStatus → Bool
is_ended s = s.done == s.receivers

-- the share of the move's keys that are loaded, in whole thousandths, at most 1000
abbrev pub move_share : MoveStatus → ℕ
move_share s = min (thousandths (move_loaded s) (move_keys s)) 1000

-- the mean of the shares of the moves, rounded down, so that a move counts as any other, however many keys it has; 1000 if there is none
abbrev pub course_share : List MoveStatus → ℕ
course_share ss = if length ss == 0 then 1000 else sum_by move_share ss / length ss
