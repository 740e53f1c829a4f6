-- What a race shows (this project's scenario language).
use Rattle.std.specs.Prelude.{◌≡◌, ◌⊎◌, ℕ, List, ◌++◌, Result, Ok, Err, codes}
use Rattle.std.specs.List.{flat_map}
use Rattle.std.specs.Fmt.{decimal}
use Rattle.squall_key.specs.Keys.{text_of_key}
use Rattle.squall_plan.specs.declared.range.PlanRange.{PlanRange}
use Rattle.squall_course.specs.Change.{Change}
use Rattle.squall_board.specs.Boards.{BoardValue, empty_board, says}
use Rattle.squall_board.specs.Route.{route}
use Rattle.squall_cli_lines.specs.Lines.{lines_of}
use Rattle.squall_cli_lines.specs.declared.Ended.{Ended}
use Rattle.squall_cli_lines.specs.declared.Ended.TheVariants.{Fine, Refused}
use Rattle.squall_cli_words.specs.declared.reason.Reason.{Reason}
use Rattle.squall_cli_words.specs.declared.reason.Reason.TheVariants.{Order}
use Rattle.squall_cli_words.specs.Reasons.{bad_line}
use Rattle.squall_cli_words.specs.BoardText.{board_text}
use Rattle.squall_cluster_inbox.specs.Letters.{board_after}
use Rattle.squall_cluster.specs.Race.{Reports, all_of, boards_of}
use Rattle.squall_cli_race.specs.RaceFiles.{Plans, NoPlan, OldPlan, BothPlans, RaceState, at_start, at_next_line, after_lines}

-- the board of all reports of these lists
abbrev pub board_of_lists : List Reports → BoardValue
board_of_lists lists = board_after empty_board (boards_of (all_of lists))

-- course 1 goes from the old plan to the new one
abbrev pub first_course : List PlanRange → List PlanRange → Change
first_course old new = record { number = 1; old = old; new = new }

-- the partition to ask for a key
abbrev pub route_line : Change → BoardValue → ℕ → List ℕ
route_line course b k = codes "route " ++ (text_of_key k ++ (codes " " ++ (decimal (route course (says b) k) ++ codes "\n")))

abbrev pub route_lines : Change → BoardValue → List ℕ → List ℕ
route_lines course b ks = flat_map (route_line course b) ks

-- the board and each key's route by it
abbrev pub text_of_race : Change → BoardValue → List ℕ → List ℕ
text_of_race course b keys = board_text b ++ route_lines course b keys

-- a seat or a look was refused to a reader, or a thread could not be started
abbrev pub IsRefusal : List ℕ → Type 0
IsRefusal shown = (shown ≡ codes "refused NoPlace\n") ⊎ (shown ≡ codes "refused NoThread\n")

-- the race is refused for the line of that number
abbrev pub RefusesLine : ℕ → Reason → Ended → List ℕ → Type 0
RefusesLine line reason ended shown = (ended ≡ Refused) × (shown ≡ bad_line line reason ++ codes "\n")

-- the race is run, or was refused what it needs
abbrev pub ShowsRace : RaceState → Change → Ended → List ℕ → Type 0
ShowsRace s course Fine shown = shown ≡ text_of_race course (board_of_lists s.lists) s.keys
ShowsRace s course Refused shown = IsRefusal shown

-- a file that ends before both plans are read lacks a line
abbrev pub EndsIn : RaceState → Plans → Ended → List ℕ → Type 0
EndsIn s NoPlan ended shown = RefusesLine (at_next_line s).line Order ended shown
EndsIn s (OldPlan old) ended shown = RefusesLine (at_next_line s).line Order ended shown
EndsIn s (BothPlans old new) ended shown = ShowsRace s (first_course old new) ended shown

abbrev pub ShowsFile : Result RaceState (ℕ × Reason) → Ended → List ℕ → Type 0
ShowsFile (Ok s) ended shown = EndsIn s s.plans ended shown
ShowsFile (Err bad) ended shown = RefusesLine bad.0 bad.1 ended shown

-- What a race may show of the text of its file, by how it ended. If it is fine it shows one text, whatever the schedule of its threads.
-- Else it shows why a line is bad, or that it was refused what it needs
abbrev pub MayShow : List ℕ → Ended → List ℕ → Type 0
MayShow text ended shown = ShowsFile (after_lines at_start (lines_of text)) ended shown
