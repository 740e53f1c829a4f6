-- What the code has done when it answers, for the functions that make up an answer.
use Rattle.std.specs.Prelude.{◌≡◌, ◌⊎◌, ℕ, List, Option, Result, Ok, Err}
use Rattle.squall_cli_lines.specs.Script.{IsPrefix}
use Rattle.squall_cli_lines.specs.declared.Flow.{Flow}
use Rattle.squall_cli_lines.specs.declared.Flow.TheVariants.{On, End}
use Rattle.squall_cli_words.specs.declared.reason.Reason.{Reason}
use Rattle.squall_cli_command.specs.declared.inquiry.Inquiry.{Inquiry}
use Rattle.squall_cli_boards.specs.Answers.{AnswerValue}
use Rattle.squall_cli_ask.specs.Asked.{status_of_answer}
use Rattle.squall_cli_ask.specs.Keys.{text_of_route, bad_text}

-- ---- files

-- what was written of an answer that goes to standard output, by the status: all of it, or after a write fault a prefix
abbrev pub IsSent : ℕ → Inquiry → AnswerValue → List ℕ → Type 0
IsSent status asked a written = ((status ≡ status_of_answer asked a) × (written ≡ a.text)) ⊎ ((status ≡ 3) × IsPrefix written a.text)

-- ---- keys

-- this flow and text answer the line of that number, which has this key or is bad
abbrev pub IsKeyReply : Flow → List ℕ → (ℕ → ℕ) → ℕ → Result (Option ℕ) Reason → Type 0
IsKeyReply On text to_part number (Ok key) = text ≡ text_of_route to_part key
IsKeyReply On text to_part number (Err reason) = ⊥
IsKeyReply End text to_part number (Ok key) = ⊥
IsKeyReply End text to_part number (Err reason) = text ≡ bad_text number reason
