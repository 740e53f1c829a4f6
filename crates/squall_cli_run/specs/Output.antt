-- What the commands `check` and `course` write of plans (this project's command line).
use Rattle.std.specs.Prelude.{◌≡◌, ℕ, List, [], ◌++◌, length, Bool, true, false, Result, Ok, Err, codes}
use Rattle.std.specs.List.{flat_map}
use Rattle.std.specs.Fmt.{decimal}
use Rattle.squall_span.specs.Spans.{text_of_span}
use Rattle.squall_plan.specs.declared.range.PlanRange.{PlanRange}
use Rattle.squall_plan.specs.declared.fault.PlanFault.{PlanFault}
use Rattle.squall_plan.specs.Faults.{text_of_fault}
use Rattle.squall_plan.specs.Form.{plan_of_text}
use Rattle.squall_course.specs.declared.moving.Move.{Move}
use Rattle.squall_course.specs.Moves.{moves_of}
use Rattle.squall_course.specs.Subplans.{subplan_count}
use Rattle.squall_cli_command.specs.declared.form.Form.{Form}
use Rattle.squall_cli_command.specs.declared.form.Form.TheVariants.{Lines, Json}
use Rattle.squall_cli_json.specs.Values.{json_line, json_of_refusal, json_of_plan, json_of_course}
use Rattle.squall_cli_lines.specs.Script.{IsPrefix}
use Rattle.squall_cli_lines.specs.declared.Ended.{Ended}
use Rattle.squall_cli_lines.specs.declared.Ended.TheVariants.{Fine, Refused}
use Rattle.squall_cli_lines.specs.declared.RunFault.{RunFault}
use Rattle.squall_cli_lines.specs.declared.RunFault.TheVariants.{Read, Write, NoMemory}

-- what is written: a text, and whether it refuses what was given
pub record Output : Type 0 where
  pub text : List ℕ
  pub refused : Bool

-- ---- check

-- the line of a range: its partition and its keys
abbrev pub range_line : PlanRange → List ℕ
range_line r = codes "range " ++ (decimal r.part ++ (codes " " ++ (text_of_span r.span ++ codes "\n")))

-- the lines of ranges, one after another
abbrev pub range_lines : List PlanRange → List ℕ
range_lines rs = flat_map range_line rs

-- why there is no plan; `which` says of which, and ends in a blank where it says anything
abbrev pub refusal : List ℕ → PlanFault → List ℕ
refusal which fault = codes "refused " ++ (which ++ (text_of_fault fault ++ codes "\n"))

-- the ranges of a plan by rising key and their number, or its fault
abbrev pub check_of_plan : Result (List PlanRange) PlanFault → Output
check_of_plan (Ok rs) = record { text = range_lines rs ++ (codes "plan " ++ (decimal (length rs) ++ codes "\n")); refused = false }
check_of_plan (Err fault) = record { text = refusal [] fault; refused = true }

-- what `check` writes of the plan of a text
abbrev pub check_of : List ℕ → Output
check_of text = check_of_plan (plan_of_text text)

-- the same as JSON
abbrev pub json_check_of_plan : Result (List PlanRange) PlanFault → Output
json_check_of_plan (Ok rs) = record { text = json_line (json_of_plan rs); refused = false }
json_check_of_plan (Err fault) = record { text = json_line (json_of_refusal (codes "plan") (text_of_fault fault)); refused = true }

-- what `check` writes of the plan of a text in that form
abbrev pub check_in : Form → List ℕ → Output
check_in Lines text = check_of text
check_in Json text = json_check_of_plan (plan_of_text text)

-- ---- course

-- the line of a move: its keys, where they come from and go to, and its sub-plan
abbrev pub move_line : Move → List ℕ
move_line m =
    codes "move " ++ (text_of_span m.span ++ (codes " " ++ (decimal m.source
    ++ (codes " to " ++ (decimal m.dest ++ (codes " sub " ++ (decimal m.sub ++ codes "\n")))))))

-- the lines of moves, one after another
abbrev pub move_lines : List Move → List ℕ
move_lines ms = flat_map move_line ms

-- how many moves and sub-plans there are
abbrev pub count_lines : ℕ → ℕ → List ℕ
count_lines moves subplans = codes "moves " ++ (decimal moves ++ (codes "\nsub-plans " ++ (decimal subplans ++ codes "\n")))

-- how many moves and sub-plans there are between two plans, and the moves by rising key
abbrev pub course_lines : List PlanRange → List PlanRange → List ℕ
course_lines old new = count_lines (length (moves_of old new)) (subplan_count old new) ++ move_lines (moves_of old new)

-- the course between two plans, or the fault of the old one, or else that of the new one
abbrev pub course_of_plans : Result (List PlanRange) PlanFault → Result (List PlanRange) PlanFault → Output
course_of_plans (Ok old) (Ok new) = record { text = course_lines old new; refused = false }
course_of_plans (Ok old) (Err fault) = record { text = refusal (codes "new ") fault; refused = true }
course_of_plans (Err fault) new = record { text = refusal (codes "old ") fault; refused = true }

-- what `course` writes of the plans of two texts
abbrev pub course_of : List ℕ → List ℕ → Output
course_of old new = course_of_plans (plan_of_text old) (plan_of_text new)

-- the same as JSON
abbrev pub json_course_of_plans : Result (List PlanRange) PlanFault → Result (List PlanRange) PlanFault → Output
json_course_of_plans (Ok old) (Ok new) = record { text = json_line (json_of_course old new); refused = false }
json_course_of_plans (Ok old) (Err fault) = record { text = json_line (json_of_refusal (codes "new") (text_of_fault fault)); refused = true }
json_course_of_plans (Err fault) new = record { text = json_line (json_of_refusal (codes "old") (text_of_fault fault)); refused = true }

-- what `course` writes of the plans of two texts in that form
abbrev pub course_in : Form → List ℕ → List ℕ → Output
course_in Lines old new = course_of old new
course_in Json old new = json_course_of_plans (plan_of_text old) (plan_of_text new)

-- ---- what was written

-- the text is the output, and the ending says whether it refuses what was given
abbrev pub IsReady : Ended → List ℕ → Output → Type 0
IsReady Fine text output = (text ≡ output.text) × (output.refused ≡ false)
IsReady Refused text output = (text ≡ output.text) × (output.refused ≡ true)

-- what was written of an output, by what was returned: all of it; after a write fault a prefix; and after a read fault or a
-- failed allocation, which come before the output is ready, nothing
abbrev pub IsWritten : Result Ended RunFault → Output → List ℕ → Type 0
IsWritten (Ok ended) output written = IsReady ended written output
IsWritten (Err Read) output written = written ≡ []
IsWritten (Err Write) output written = IsPrefix written output.text
IsWritten (Err NoMemory) output written = written ≡ []
