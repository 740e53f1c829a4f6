-- What a partition knows and keeps (partitions that hold keys and give them to others: Squall, SIGMOD 2015; that one partition
-- knows several reconfigurations is this project's).
use Rattle.std.specs.Prelude.{◌≡◌, ◌≢◌, ℕ, ◌<◌, ◌==◌, ◌⊎◌, Bool, true, false, List, [], ◌∷◌, map, filter, Option, None, Some, if◌then◌else◌}
use Rattle.std.specs.Option.{option_map}
use Rattle.std.specs.List.{find, AllByRecursion}
use Rattle.squall_join.specs.declared.flat.Flat.TheVariants.{Unknown}
use Rattle.squall_span.specs.Spans.{Interval, IsSet}
use Rattle.squall_plan.specs.declared.range.PlanRange.{PlanRange}
use Rattle.squall_course.specs.Change.{Change, ArePlans}
use Rattle.squall_board.specs.Boards.{BoardValue, IsBoard, empty_board, issued, opened_count}
use Rattle.squall_board.specs.CourseRoute.{course_of_board}
use Rattle.squall_protocol.specs.Known.{course_under}

-- what a partition did under a course: the keys that it gave, those that it loaded, and whether it gives no more
pub record Log : Type 0 where
  pub course : Change
  pub given : List Interval
  pub loaded : List Interval
  pub closed : Bool

abbrev pub log_with : Change → List Interval → List Interval → Bool → Log
log_with course given loaded closed = record { course = course; given = given; loaded = loaded; closed = closed }

-- a partition: its number, its first course, the board of all that it knows, the keys that it holds, and a log for each course
pub record PartValue : Type 0 where
  pub id : ℕ
  pub first : Change
  pub board : BoardValue
  pub held : List Interval
  pub logs : List Log

-- ---- which courses it knows

-- a partition knows its first course, and under each other number the course that its board has, if it has exactly one
abbrev pub known_course : Change → BoardValue → ℕ → Option Change
known_course first b n = if n == first.number then Some first else course_under n (issued b n)

abbrev pub known_to : PartValue → ℕ → Option Change
known_to p n = known_course p.first p.board n

-- the course that it uses: the one of the greatest number that it knows
abbrev pub course_of_part : PartValue → Change
course_of_part p = course_of_board p.first p.board

-- how many sub-plans of that course it knows to be opened
abbrev pub opened_at : PartValue → ℕ → ℕ
opened_at p n = opened_count p.board n

-- ---- what it gave and loaded

-- the log of a number
abbrev pub log_of : List Log → ℕ → Option Log
log_of logs n = find (λ l. l.course.number == n) logs

-- the keys given, and loaded, under the number: none if no such log is kept
abbrev pub given_in : Option Log → List Interval
given_in None = []
given_in (Some l) = l.given

abbrev pub loaded_in : Option Log → List Interval
loaded_in None = []
loaded_in (Some l) = l.loaded

-- whether it gives no more under the number: it does not, if no such log is kept
abbrev pub closed_in : Option Log → Bool
closed_in None = false
closed_in (Some l) = l.closed

abbrev pub closed_by : PartValue → ℕ → Bool
closed_by p n = closed_in (log_of p.logs n)

abbrev pub given_by : PartValue → ℕ → List Interval
given_by p n = given_in (log_of p.logs n)

abbrev pub loaded_by : PartValue → ℕ → List Interval
loaded_by p n = loaded_in (log_of p.logs n)

-- with other keys given, or loaded, under the number
abbrev pub set_given : ℕ → List Interval → Log → Log
set_given n keys l = if l.course.number == n then record l { given = keys } else l

abbrev pub set_loaded : ℕ → List Interval → Log → Log
set_loaded n keys l = if l.course.number == n then record l { loaded = keys } else l

abbrev pub with_given : ℕ → List Interval → List Log → List Log
with_given n keys logs = map (set_given n keys) logs

abbrev pub with_loaded : ℕ → List Interval → List Log → List Log
with_loaded n keys logs = map (set_loaded n keys) logs

-- with no more to be given under the number
abbrev pub set_closed : ℕ → Log → Log
set_closed n l = if l.course.number == n then record l { closed = true } else l

abbrev pub with_closed : ℕ → List Log → List Log
with_closed n logs = map (set_closed n) logs

-- ---- at first

-- the ranges of a plan that a partition owns, as a set
abbrev pub ranges_of : ℕ → List PlanRange → List Interval
ranges_of id rs = map (λ r. r.span) (filter (λ r. r.part == id) rs)

-- a partition that has heard nothing: it holds what the old plan gives it
abbrev pub new_part : ℕ → Change → PartValue
new_part id first = record { id = id; first = first; board = empty_board; held = ranges_of id first.old; logs = log_with first [] [] false ∷ [] }

-- ---- what holds of every partition

-- the number is less than that of each log
abbrev pub IsBelow : ℕ → List Log → Type 0
IsBelow n logs = AllByRecursion (λ l. n < l.course.number) logs

-- each log is of a greater number than those before it
abbrev pub AreRising : List Log → Type 0
AreRising [] = Unit {0}
AreRising (l ∷ ls) = IsBelow l.course.number ls × AreRising ls

-- both sets of a log are sets of keys, and its plans are plans
pub record IsLog (l : Log) : Type 0 where
  pub plans : ArePlans l.course.old l.course.new
  pub given : IsSet l.given
  pub loaded : IsSet l.loaded

-- the number is the first course's, or something is issued under it
abbrev pub IsHeard : Change → BoardValue → ℕ → Type 0
IsHeard first b n = (n ≡ first.number) ⊎ (issued b n ≢ Unknown)

-- Its board is a board, and what it holds is a set of keys. It keeps one log for each course that it knows, by rising number, and each log
-- is of a number that it has heard of.
pub record IsPart (p : PartValue) : Type 0 where
  pub board : IsBoard p.board
  pub plans : ArePlans p.first.old p.first.new
  pub held : IsSet p.held
  pub logs : AllByRecursion IsLog p.logs
  pub rising : AreRising p.logs
  pub heard : AllByRecursion (λ l. IsHeard p.first p.board l.course.number) p.logs
  pub known : (n : ℕ) (c : Change) → known_to p n ≡ Some c → option_map (λ l. l.course) (log_of p.logs n) ≡ Some c
