-- How far a reconfiguration has come (this project).
use Rattle.std.specs.Prelude.{◌≡◌, ℕ, ◌*◌, ◌/◌, ◌-◌, ◌<◌, ◌≤◌, ◌==◌, Bool, true, false, ◌&&◌, List, map, length, Option, None, Some, if◌then◌else◌}
use Rattle.std.specs.List.{AllByRecursion, count_by, range_with_len}
use Rattle.squall_key.specs.Keys.{top}
use Rattle.squall_span.specs.Spans.{how_many}
use Rattle.squall_course.specs.Change.{Change}
use Rattle.squall_course.specs.Subplans.{moves, subplan_count}
use Rattle.squall_course.specs.Moves.{moves_of, receivers_of}
use Rattle.squall_report.specs.Cells.{place_at}
use Rattle.squall_report.specs.Facts.{Fact, DonePart, OpenedSub}
use Rattle.squall_board.specs.Route.{has_come}
use Rattle.squall_status.specs.declared.progress.MoveStatus.{MoveStatus}
use Rattle.squall_status.specs.declared.subplan.SubplanStatus.{SubplanStatus}
use Rattle.squall_status.specs.Coming.{IsProgress, loaded_in}

-- how far a course has come: its number, its moves by rising key, and its sub-plans by rising number. Also which of these is
-- open, how many keys move, and how many of them are loaded
pub record StatusValue : Type 0 where
  pub number : ℕ
  pub moves : List MoveStatus
  pub subplans : List SubplanStatus
  pub open_sub : Option ℕ
  pub keys : ℕ
  pub loaded : ℕ

-- ---- moves

-- how many keys the move has
abbrev pub move_keys : MoveStatus → ℕ
move_keys s = s.moving.span.hi - s.moving.span.lo

-- how many keys of the move are loaded, as its progress says
abbrev pub move_loaded : MoveStatus → ℕ
move_loaded s = loaded_in s.moving.span s.progress

-- the progress of a move: a key is loaded once it has come in the course, by its load or by the completion of its receiver
abbrev pub IsMoveStatus : Change → (Fact → Bool) → MoveStatus → Type 0
IsMoveStatus c says s = IsProgress s.moving.span (has_come c says) s.progress

-- the statuses of the moves, in the order of the moves
pub record AreMoveStatuses (c : Change) (says : Fact → Bool) (ss : List MoveStatus) : Type 0 where
  pub moves : map (λ s. s.moving) ss ≡ moves_of c.old c.new
  pub each : AllByRecursion (IsMoveStatus c says) ss

-- ---- sub-plans

-- the partition is done with the sub-plan of the number
abbrev pub is_done : (Fact → Bool) → ℕ → ℕ → ℕ → Bool
is_done says number sub part = says (DonePart (place_at number sub part))

-- of a sub-plan: how many partitions receive keys in it, how many of these are done, and whether it is opened
abbrev pub subplan_status : Change → (Fact → Bool) → ℕ → SubplanStatus
subplan_status c says sub = record {
  sub = sub;
  receivers = length (receivers_of (moves_of c.old c.new) sub);
  done = count_by (is_done says c.number sub) (receivers_of (moves_of c.old c.new) sub);
  opened = says (OpenedSub c.number sub);
}

-- of each sub-plan of the course, by rising number
abbrev pub subplan_statuses : Change → (Fact → Bool) → List SubplanStatus
subplan_statuses c says = map (subplan_status c says) (range_with_len 0 (subplan_count c.old c.new))

-- the greatest number below the bound that passes the test; or none passes
abbrev pub IsLastBelow : ℕ → (ℕ → Bool) → Option ℕ → Type 0
IsLastBelow bound test None = (n : ℕ) → n < bound → test n ≡ false
IsLastBelow bound test (Some last) = (last < bound) × (test last ≡ true) × ((n : ℕ) → n < bound → test n ≡ true → n ≤ last)

-- the sub-plan that is open: the one of the course that was opened last
abbrev pub IsOpenSub : Change → (Fact → Bool) → Option ℕ → Type 0
IsOpenSub c says sub = IsLastBelow (subplan_count c.old c.new) (λ s. says (OpenedSub c.number s)) sub

-- ---- the course

-- the key moves and is loaded
abbrev pub is_loaded : Change → (Fact → Bool) → ℕ → Bool
is_loaded c says k = moves c.old c.new k && has_come c says k

-- how far the course has come, by what is said
pub record IsStatusOf (c : Change) (says : Fact → Bool) (s : StatusValue) : Type 0 where
  pub number : s.number ≡ c.number
  pub statuses : AreMoveStatuses c says s.moves
  pub subplans : s.subplans ≡ subplan_statuses c says
  pub open_sub : IsOpenSub c says s.open_sub
  pub keys : s.keys ≡ how_many (moves c.old c.new) top
  pub loaded : s.loaded ≡ how_many (is_loaded c says) top

-- the share of the keys that are loaded, in whole thousandths, rounded down; 1000 if no key moves
abbrev pub thousandths : ℕ → ℕ → ℕ
thousandths loaded keys = if keys == 0 then 1000 else loaded * 1000 / keys
