-- What was written for the lines that were read.
use Rattle.std.proofs.Common.{◌≡◌, ℕ, List, [], Result, Ok, Err, refl, sym, subst, arith}
use Rattle.std.proofs.KnownBytes.{Appends-nil, Consumes-nil}
use Rattle.squall_cli_device.specs.States.{SourceState, SinkState, TookBytes, ReadAndWrote}
use Rattle.squall_cli_lines.specs.declared.Ended.{Ended}
use Rattle.squall_cli_lines.specs.declared.RunFault.{RunFault}
use Rattle.squall_cli_lines.specs.declared.RunFault.TheVariants.{NoMemory}
use Rattle.squall_cli_lines.specs.Script.{IsOutcomeOf, IsPrompt, PlaysOnly, silence}
use Rattle.squall_cli_boards.specs.Answers.{AnswerValue}
use Rattle.squall_cli_boards.specs.Known.{KnownValue}
use Rattle.squall_cli_ask.specs.Written.{script_of, IsRefusal, AnswersLines, PromptBy}

module _ (found : Result KnownValue AnswerValue) (result : Result Ended RunFault) (a b : SourceState) (x y : SinkState) where
  -- by the course that was found
  pub lines_answered : (k : KnownValue) → found ≡ Ok k → ReadAndWrote a b x y (IsOutcomeOf result (script_of k)) → ReadAndWrote a b x y (AnswersLines found result)
  lines_answered k is t = subst (λ f. ReadAndWrote a b x y (AnswersLines f result)) (sym is) t

  pub lines_prompt : (k : KnownValue) → found ≡ Ok k → ReadAndWrote a b x y (IsPrompt (PlaysOnly (script_of k))) → ReadAndWrote a b x y (PromptBy found)
  lines_prompt k is t = subst (λ f. ReadAndWrote a b x y (PromptBy f)) (sym is) t

  -- a file is refused
  pub lines_refused : (refusal : AnswerValue) → found ≡ Err refusal → ((written : List ℕ) × TookBytes x y written × IsRefusal result refusal.text written) → ReadAndWrote a a x y (AnswersLines found result)
  lines_refused refusal is w = subst (λ f. ReadAndWrote a a x y (AnswersLines f result)) (sym is) ([], w.0, Consumes-nil a.remaining, w.1, (refl, w.2))

  pub refused_prompt : (refusal : AnswerValue) (written : List ℕ) → found ≡ Err refusal → TookBytes x y written → ReadAndWrote a a x y (PromptBy found)
  refused_prompt refusal written is took = subst (λ f. ReadAndWrote a a x y (PromptBy f)) (sym is) ([], written, Consumes-nil a.remaining, took, refl)

-- an allocation failed before a line was read
none_answered : (found : Result KnownValue AnswerValue) → AnswersLines found (Err NoMemory) [] []
none_answered (Ok k) = (0, refl)
none_answered (Err refusal) = (refl, refl)

none_prompt : (found : Result KnownValue AnswerValue) → PromptBy found [] []
none_prompt (Ok k) = record { earlier = []; last = []; split = refl; small = omega arith; script = silence; played = refl; good = refl; answered = ([], refl) }
none_prompt (Err refusal) = refl

pub nothing_answered : (found : Result KnownValue AnswerValue) (a : SourceState) (x : SinkState) → ReadAndWrote a a x x (AnswersLines found (Err NoMemory))
nothing_answered found a x = ([], [], Consumes-nil a.remaining, Appends-nil x.contents, none_answered found)

pub nothing_prompt : (found : Result KnownValue AnswerValue) (a : SourceState) (x : SinkState) → ReadAndWrote a a x x (PromptBy found)
nothing_prompt found a x = ([], [], Consumes-nil a.remaining, Appends-nil x.contents, none_prompt found)
