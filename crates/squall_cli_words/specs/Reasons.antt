-- Why lines are bad, as it is written (this project's scenario language).
use Rattle.std.specs.Prelude.{ℕ, List, ◌++◌, codes}
use Rattle.std.specs.Fmt.{decimal}
use Rattle.squall_plan.specs.Faults.{text_of_fault}
use Rattle.squall_cli_words.specs.declared.reason.Reason.{Reason}
use Rattle.squall_cli_words.specs.declared.reason.Reason.TheVariants.{Long, Word, Order, Limit, Plan}

abbrev pub text_of_reason : Reason → List ℕ
text_of_reason Long = codes "long"
text_of_reason Word = codes "word"
text_of_reason Order = codes "order"
text_of_reason Limit = codes "limit"
text_of_reason (Plan fault) = codes "plan " ++ text_of_fault fault

-- why the line of that number is bad, as it is written, without its LF
abbrev pub bad_line : ℕ → Reason → List ℕ
bad_line line reason = codes "bad line " ++ (decimal line ++ (codes ": " ++ text_of_reason reason))
