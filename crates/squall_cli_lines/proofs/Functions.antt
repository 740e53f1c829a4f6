-- Machines with one script for each list of lines.
use Rattle.std.proofs.Common.{◌≡◌, ℕ, List, [], ◌∷◌, ◌++◌, take, drop, Result, Ok, Err, sym, ◌∙◌, ap}
use Rattle.std.proofs.lemmas.List.{append_assoc, take-append-drop}
use Rattle.std.specs.List.{concat}
use Rattle.squall_cli_lines.specs.declared.Flow.TheVariants.{On, End}
use Rattle.squall_cli_lines.specs.declared.Ended.{Ended}
use Rattle.squall_cli_lines.specs.declared.Ended.TheVariants.{Fine, Refused}
use Rattle.squall_cli_lines.specs.declared.RunFault.{RunFault}
use Rattle.squall_cli_lines.specs.declared.RunFault.TheVariants.{Read, Write, NoMemory}
use Rattle.squall_cli_lines.specs.Lines.{lines_of}
use Rattle.squall_cli_lines.specs.Script.{Script, TakesLine, PlaysOnly, IsByLine, after, last_word, text_of, IsOutcome, IsOutcomeOf}
use Rattle.squall_cli_lines.proofs.RunningLemmas.{concat-append}

-- a good line taken
pub takes-on : (text : List ℕ) (old new : List (List ℕ) → Script) (line : List ℕ) → ((lines : List (List ℕ)) → old (line ∷ lines) ≡ after (text ∷ []) (new lines)) → TakesLine On text (PlaysOnly old) (PlaysOnly new) line
takes-on text old new line taken = λ lines s is. ap (after (text ∷ [])) is ∙ sym (taken lines)

-- a bad one
pub takes-end : (text : List ℕ) (old new : List (List ℕ) → Script) (line : List ℕ) → ((lines : List (List ℕ)) → old (line ∷ lines) ≡ last_word text) → TakesLine End text (PlaysOnly old) (PlaysOnly new) line
takes-end text old new line taken = λ lines. sym (taken lines)

module _ (script : List (List ℕ) → Script) (by_line : IsByLine script) where
  -- the answers to some first lines come first
  text_of-first : (n : ℕ) (lines : List (List ℕ)) → text_of (script lines) ≡ text_of (script (take n lines)) ++ concat (drop n (script lines).answers)
  text_of-first n lines =
      let all = (script lines).answers in
      ap concat (sym (take-append-drop n all)) ∙ concat-append (take n all) (drop n all) ∙ ap (λ w. concat w ++ concat (drop n all)) (sym (by_line n lines))

  pub outcome_of_function : (result : Result Ended RunFault) (read written : List ℕ) → IsOutcome result (PlaysOnly script) read written → IsOutcomeOf result script read written
  outcome_of_function (Ok Fine) read written o = (o.2 ∙ ap text_of o.1, ap (λ (s : Script). s.refused) (sym o.1) ∙ o.3)
  outcome_of_function (Ok Refused) read written o = (o.2 ∙ ap text_of o.1, ap (λ (s : Script). s.refused) (sym o.1) ∙ o.3)
  outcome_of_function (Err Read) read written o = o.2 ∙ ap text_of o.1
  outcome_of_function (Err Write) read written o =
      let later = concat (drop o.0 (script (lines_of read)).answers) in (
        o.3.0 ++ later,
        text_of-first o.0 (lines_of read) ∙ ap (λ w. w ++ later) (ap text_of (sym o.2) ∙ o.3.1) ∙ append_assoc written o.3.0 later,
      )
  outcome_of_function (Err NoMemory) read written o = (o.0, o.3 ∙ ap text_of o.2 ∙ ap concat (by_line o.0 (lines_of read)))
