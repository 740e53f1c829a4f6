-- The newest course of two plans and of board files, with what the board files tell (this project's command line).
use Rattle.std.specs.Prelude.{List, drop, Result, Ok, Err, codes}
use Rattle.squall_plan.specs.declared.range.PlanRange.{PlanRange}
use Rattle.squall_plan.specs.declared.fault.PlanFault.{PlanFault}
use Rattle.squall_plan.specs.Form.{plan_of_text}
use Rattle.squall_course.specs.Change.{Change}
use Rattle.squall_board.specs.Boards.{BoardValue}
use Rattle.squall_board.specs.CourseRoute.{course_of_board}
use Rattle.squall_cli_command.specs.declared.form.Form.{Form}
use Rattle.squall_cli_boards.specs.Files.{FileValue, RefusalValue, files_joined}
use Rattle.squall_cli_boards.specs.Answers.{AnswerValue, refusing_file, refusing_plan, bytes_at}

-- a course, and a board that tells of it
pub record KnownValue : Type 0 where
  pub course : Change
  pub board : BoardValue

-- the first course of two plans
abbrev pub first_course : List PlanRange → List PlanRange → Change
first_course old new = record { number = 1; old = old; new = new }

-- the newest course of a board after the first one, with the board
abbrev pub newest_after : Change → BoardValue → KnownValue
newest_after first b = record { course = course_of_board first b; board = b }

-- the same of a board, or what refuses a board file in the form
abbrev pub newest_joined : Form → Change → Result BoardValue RefusalValue → Result KnownValue AnswerValue
newest_joined form first (Ok b) = Ok (newest_after first b)
newest_joined form first (Err r) = Err (refusing_file form r)

-- the same of two plans and of board files
abbrev pub newest_with : Form → List PlanRange → List PlanRange → List FileValue → Result KnownValue AnswerValue
newest_with form old new files = newest_joined form (first_course old new) (files_joined files)

-- the same of the plans of two texts, or what refuses the old one, or else the new one
abbrev pub newest_of_texts : Form → Result (List PlanRange) PlanFault → Result (List PlanRange) PlanFault → List FileValue → Result KnownValue AnswerValue
newest_of_texts form (Ok old) (Ok new) files = newest_with form old new files
newest_of_texts form (Ok old) (Err fault) files = Err (refusing_plan form (codes "new") fault)
newest_of_texts form (Err fault) new files = Err (refusing_plan form (codes "old") fault)

-- the same of files: the first two are plans, and the others board files
abbrev pub newest_of : Form → List FileValue → Result KnownValue AnswerValue
newest_of form files = newest_of_texts form (plan_of_text (bytes_at files 0)) (plan_of_text (bytes_at files 1)) (drop 2 files)
