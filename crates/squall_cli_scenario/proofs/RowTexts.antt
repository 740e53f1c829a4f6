-- No answer to an act says that a line is bad.
use Rattle.std.proofs.Common.{◌≡◌, ℕ, ◌==◌, Bool, true, false, not, List, [], ◌∷◌, ◌++◌, Option, None, Some, refl, arith}
use Rattle.std.specs.Prelude.{codes, if◌then◌else◌}
use Rattle.std.specs.List.{list_any}
use Rattle.std.proofs.lemmas.Bool.{and_parts}
use Rattle.hex.specs.Hex.{encode_lower}
use Rattle.squall_protocol.specs.declared.event.Event.TheVariants.{Serve}
use Rattle.squall_rows.specs.RowSteps.{Act, Plain, Ask, Restart, Outcome, Answered, Ran, Back}
use Rattle.squall_store.specs.declared.command.Command.{Command}
use Rattle.squall_world_rows.specs.Seen.{BytesRow}
use Rattle.squall_cli_events.specs.RowLines.{is_line, row_text, row_answer}
use Rattle.squall_cli_words.proofs.LineTexts.{no_lf, spells_lf, spells_glued, NotBegun, differs_at, Lacks, lacks_nothing, lacks_line}
use Rattle.squall_cli_scenario.specs.Replies.{outcome_line}
use Rattle.squall_cli_scenario.proofs.AnswerTexts.{answer_lacks}
use Rattle.squall_cli_scenario.proofs.Heard.{encoded_no_lf}

abbrev bad : List ℕ
bad = codes "bad line "

-- ---- no byte is LF

lacks_lf : (bytes : List ℕ) → not (list_any (λ b. b == 10) bytes) ≡ true → no_lf bytes ≡ true
lacks_lf [] h = refl
lacks_lf (b ∷ bytes) h = grind (arith, h, lacks_lf bytes)

shown_no_lf : (is : Bool) (bytes : List ℕ) → is_line bytes ≡ is → no_lf (if is then codes "row " ++ bytes else codes "bytes " ++ encode_lower bytes) ≡ true
shown_no_lf true bytes e = lacks_lf bytes (and_parts _ _ e).0
shown_no_lf false bytes e = encoded_no_lf bytes

row_no_lf : (row : Option (List ℕ)) → no_lf (row_text row) ≡ true
row_no_lf None = refl
row_no_lf (Some bytes) = shown_no_lf (is_line bytes) bytes refl

-- ---- no text begins as a bad line does

shown_begins : (is : Bool) (bytes more : List ℕ) → NotBegun bad ((if is then codes "row " ++ bytes else codes "bytes " ++ encode_lower bytes) ++ more)
shown_begins true bytes more rest = differs_at 0 ((codes "row " ++ bytes) ++ more) (bad ++ rest) (λ e. omega (arith, e))
shown_begins false bytes more rest = differs_at 1 ((codes "bytes " ++ encode_lower bytes) ++ more) (bad ++ rest) (λ e. omega (arith, e))

row_begins : (row : Option (List ℕ)) (more : List ℕ) → NotBegun bad (row_text row ++ more)
row_begins None more rest = differs_at 0 (codes "row" ++ more) (bad ++ rest) (λ e. omega (arith, e))
row_begins (Some bytes) more rest = shown_begins (is_line bytes) bytes more rest

row_lacks : (row : Option (List ℕ)) → Lacks bad (row_answer row)
row_lacks row = lacks_line bad (row_answer row) (row_text row ++ []) (spells_glued (row_text row) (codes "\n") [] [] (row_no_lf row) spells_lf) (row_begins row [])

-- ---- acts

pub outcome_lacks : (act : Act Command) (outcome : Outcome BytesRow) → Lacks bad (outcome_line act outcome)
outcome_lacks (Plain event) (Answered answer) = answer_lacks event answer
outcome_lacks (Plain event) (Ran row) = row_lacks row
outcome_lacks (Plain event) Back = lacks_nothing bad
outcome_lacks (Ask part key after command) (Answered answer) = answer_lacks (Serve part key after) answer
outcome_lacks (Ask part key after command) (Ran row) = row_lacks row
outcome_lacks (Ask part key after command) Back = lacks_nothing bad
outcome_lacks (Restart part) (Answered answer) = lacks_nothing bad
outcome_lacks (Restart part) (Ran row) = row_lacks row
outcome_lacks (Restart part) Back = lacks_nothing bad
