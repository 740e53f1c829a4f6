-- What the code has done with lines, for the functions that read a race file.
use Rattle.std.specs.Prelude.{◌≡◌, ℕ, ◌≤◌, Option, None, Some, Result, Ok, Err}
use Rattle.std.specs.declared.alloc.AllocError.{AllocError}
use Rattle.std.specs.Arc.{arc_value}
use Rattle.squall_cli_words.specs.declared.reason.Reason.{Reason}
use Rattle.squall_cli_race.specs.declared.line.LineWords.{LineWords}
use Rattle.squall_cli_race.specs.declared.line.LineWords.TheVariants as code
use Rattle.squall_cli_race.specs.declared.file.Stage.{Stage}
use Rattle.squall_cli_race.specs.declared.file.Stage.TheVariants.{Unplanned, Planned, Set}
use Rattle.squall_cli_race.specs.declared.file.BadLine.{BadLine}
use Rattle.squall_cli_race.specs.RaceLines.{RaceLine, Skip, Old, New, Has, Bad}
use Rattle.squall_cli_race.specs.RaceFiles.{Plans, NoPlan, OldPlan, BothPlans, RaceState}

-- what the words of a line say
abbrev pub line_seen : LineWords → RaceLine
line_seen code.Skip = Skip
line_seen (code.Old text) = Old text.now
line_seen (code.New text) = New text.now
line_seen (code.Has item) = Has item
line_seen (code.Bad reason) = Bad reason

-- the plans that are read: both are those of the course
abbrev pub plans_seen : Stage → Plans
plans_seen Unplanned = NoPlan
plans_seen (Planned old) = OldPlan old
plans_seen (Set course) = BothPlans (arc_value course).old (arc_value course).new

-- the course has the first number
abbrev pub IsFirstCourse : Stage → Type 0
IsFirstCourse Unplanned = Unit {0}
IsFirstCourse (Planned old) = Unit {0}
IsFirstCourse (Set course) = (arc_value course).number ≡ 1

-- a number that a line gave lies within its limits
abbrev pub IsBetween : ℕ → ℕ → Option ℕ → Type 0
IsBetween least most None = Unit {0}
IsBetween least most (Some n) = (least ≤ n) × (n ≤ most)

-- a cluster may be so large
abbrev pub FitsCluster : Option ℕ → Option ℕ → ℕ → Type 0
FitsCluster capacity readers senders = IsBetween 1 65536 capacity × IsBetween 0 64 readers × (1 ≤ senders) × (senders ≤ 64)

-- unless an allocation failed, the race after a line is the definition's, or the reason is
abbrev pub Took : Result (Option Reason) AllocError → RaceState → Result RaceState Reason → Type 0
Took (Ok None) s (Ok t) = s ≡ t
Took (Ok None) s (Err reason) = ⊥
Took (Ok (Some why)) s (Ok t) = ⊥
Took (Ok (Some why)) s (Err reason) = why ≡ reason
Took (Err e) s after = Unit {0}

-- the same for the line of a number
abbrev pub TookNext : Result (Result Unit BadLine) AllocError → RaceState → ℕ → Result RaceState Reason → Type 0
TookNext (Ok (Ok done)) s n (Ok t) = s ≡ t
TookNext (Ok (Ok done)) s n (Err reason) = ⊥
TookNext (Ok (Err bad)) s n (Ok t) = ⊥
TookNext (Ok (Err bad)) s n (Err reason) = (bad.number ≡ n) × (bad.reason ≡ reason)
TookNext (Err e) s n after = Unit {0}

-- the race, or the bad line, is that of the file
abbrev pub IsRead : Result RaceState BadLine → Result RaceState (ℕ × Reason) → Type 0
IsRead (Ok s) (Ok t) = s ≡ t
IsRead (Ok s) (Err bad) = ⊥
IsRead (Err bad) (Ok t) = ⊥
IsRead (Err bad) (Err why) = (bad.number ≡ why.0) × (bad.reason ≡ why.1)
