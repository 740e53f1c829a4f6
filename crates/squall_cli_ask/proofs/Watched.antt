-- What was written while the course of two texts was watched.
use Rattle.std.proofs.Common.{◌≡◌, ℕ, List, [], Bool, Option, Some, Result, Ok, Err, refl, sym, subst, ap}
use Rattle.std.proofs.lemmas.Option.{none-some, same_Some}
use Rattle.std.proofs.KnownBytes.{Appends-nil, Consumes-nil}
use Rattle.std.specs.Prelude.{codes}
use Rattle.squall_plan.specs.declared.range.PlanRange.{PlanRange}
use Rattle.squall_plan.specs.declared.fault.PlanFault.{PlanFault}
use Rattle.squall_cli_device.specs.States.{SourceState, SinkState, TookBytes, ReadAndWrote}
use Rattle.squall_cli_lines.specs.declared.Ended.{Ended}
use Rattle.squall_cli_lines.specs.declared.Ended.TheVariants.{Fine, Refused}
use Rattle.squall_cli_lines.specs.declared.RunFault.{RunFault}
use Rattle.squall_cli_lines.specs.declared.RunFault.TheVariants.{Read, Write, NoMemory}
use Rattle.squall_cli_command.specs.declared.stream.WatchAsk.{WatchAsk}
use Rattle.squall_cli_boards.specs.Answers.{AnswerValue, refusing_plan}
use Rattle.squall_cli_boards.specs.Plans.{refusal_in}
use Rattle.squall_board.specs.Boards.{empty_board}
use Rattle.squall_cli_boards.specs.Known.{first_course}
use Rattle.squall_cli_watch.specs.declared.ending.WatchEnd.{WatchEnd}
use Rattle.squall_cli_watch.specs.declared.ending.WatchEnd.TheVariants as watch
use Rattle.squall_cli_watch.specs.Watched.{Watches}
use Rattle.squall_cli_watch.specs.Drawn.{ShowsBars}
use Rattle.squall_cli_watch.proofs.Watching.{nothing_watched}
use Rattle.squall_cli_watch.proofs.Shown.{nothing_shown}
use Rattle.squall_cli_ask.specs.Written.{IsRefusal}
use Rattle.squall_cli_ask.specs.Watching.{IsPlanRefusal, WatchesPlans, PromptByPlans, ShowsBarsOf}

module _ (how : WatchAsk) (p q : Result (List PlanRange) PlanFault) (result : Result WatchEnd RunFault) (a b : SourceState) (x y : SinkState) where
  -- both are plans
  pub plans_watched : (old new : List PlanRange) → p ≡ Ok old → q ≡ Ok new → ReadAndWrote a b x y (Watches how result old new) → ReadAndWrote a b x y (WatchesPlans how p q result)
  plans_watched old new is also w = subst (λ r. ReadAndWrote a b x y (WatchesPlans how r q result)) (sym is) (subst (λ r. ReadAndWrote a b x y (WatchesPlans how (Ok old) r result)) (sym also) w)

-- what refuses a file refuses a plan
pub ended_refuses : (ended : Ended) (line written : List ℕ) → IsRefusal (Ok ended) line written → IsPlanRefusal (Ok watch.Refused) line written
ended_refuses Fine line written is = absurd is
ended_refuses Refused line written is = is

pub fault_refuses : (fault : RunFault) (line written : List ℕ) → IsRefusal (Err fault) line written → IsPlanRefusal (Err fault) line written
fault_refuses Read line written is = absurd is
fault_refuses Write line written is = is
fault_refuses NoMemory line written is = is

-- one is refused
some_is : (a b : AnswerValue) → Some a ≡ Some b → b.text ≡ a.text
some_is a b e = ap (λ (x : AnswerValue). x.text) (sym (same_Some a b e))

refused_written : (how : WatchAsk) (p q : Result (List PlanRange) PlanFault) (result : Result WatchEnd RunFault) (answer : AnswerValue) (written : List ℕ) → refusal_in how.form p q ≡ Some answer
    → IsPlanRefusal result answer.text written → WatchesPlans how p q result [] written
refused_written how (Ok old) (Ok new) result answer written e is = absurd (none-some answer e)
refused_written how (Ok old) (Err fault) result answer written e is = (refl, subst (λ t. IsPlanRefusal result t written) (some_is (refusing_plan how.form (codes "new") fault) answer e) is)
refused_written how (Err fault) q result answer written e is = (refl, subst (λ t. IsPlanRefusal result t written) (some_is (refusing_plan how.form (codes "old") fault) answer e) is)

pub plans_refused : (how : WatchAsk) (p q : Result (List PlanRange) PlanFault) (result : Result WatchEnd RunFault) (a : SourceState) (x y : SinkState) (answer : AnswerValue) → refusal_in how.form p q ≡ Some answer
    → ((written : List ℕ) × TookBytes x y written × IsPlanRefusal result answer.text written) → ReadAndWrote a a x y (WatchesPlans how p q result)
plans_refused how p q result a x y answer e w = ([], w.0, Consumes-nil a.remaining, w.1, refused_written how p q result answer w.0 e w.2)

-- an allocation failed before anything was read
none_watched : (how : WatchAsk) (p q : Result (List PlanRange) PlanFault) → WatchesPlans how p q (Err NoMemory) [] []
none_watched how (Ok old) (Ok new) = nothing_watched how.form _ (λ f. refl)
none_watched how (Ok old) (Err fault) = (refl, refl)
none_watched how (Err fault) q = (refl, refl)

pub nothing_followed : (how : WatchAsk) (p q : Result (List PlanRange) PlanFault) (a : SourceState) (x : SinkState) → ReadAndWrote a a x x (WatchesPlans how p q (Err NoMemory))
nothing_followed how p q a x = ([], [], Consumes-nil a.remaining, Appends-nil x.contents, none_watched how p q)

-- what is written is prompt
watched_prompt : (how : WatchAsk) (p q : Result (List PlanRange) PlanFault) (result : Result WatchEnd RunFault) (read written : List ℕ) → WatchesPlans how p q result read written → PromptByPlans how p q read written
watched_prompt how (Ok old) (Ok new) result read written w = w.1
watched_prompt how (Ok old) (Err fault) result read written w = w.0
watched_prompt how (Err fault) q result read written w = w.0

pub watched_promptly : (how : WatchAsk) (p q : Result (List PlanRange) PlanFault) (result : Result WatchEnd RunFault) (a b : SourceState) (x y : SinkState)
    → ReadAndWrote a b x y (WatchesPlans how p q result) → ReadAndWrote a b x y (PromptByPlans how p q)
watched_promptly how p q result a b x y w = (w.0, w.1, w.2, w.3, watched_prompt how p q result w.0 w.1 w.4)

-- ---- bars

module _ (terminal : Bool) (how : WatchAsk) (before after : Option (List ℕ)) (x y : SinkState) where
  -- both are plans
  pub plans_shown : (p q : Result (List PlanRange) PlanFault) (result : Result WatchEnd RunFault) (old new : List PlanRange) → p ≡ Ok old → q ≡ Ok new
      → ShowsBars terminal how (first_course old new) empty_board result before after x y → ShowsBarsOf terminal how p q result before after x y
  plans_shown p q result old new is also w = subst (λ r. ShowsBarsOf terminal how r q result before after x y) (sym is) (subst (λ r. ShowsBarsOf terminal how (Ok old) r result before after x y) (sym also) w)

-- one is refused
pub refused_unshown : (how : WatchAsk) (terminal : Bool) (p q : Result (List PlanRange) PlanFault) (result : Result WatchEnd RunFault) (before after : Option (List ℕ)) (x : SinkState) (answer : AnswerValue)
    → refusal_in how.form p q ≡ Some answer → ShowsBarsOf terminal how p q result before after x x
refused_unshown how terminal (Ok old) (Ok new) result before after x answer e = absurd (none-some answer e)
refused_unshown how terminal (Ok old) (Err fault) result before after x answer e = refl
refused_unshown how terminal (Err fault) q result before after x answer e = refl

-- an allocation failed before anything was read
pub memory_unshown : (terminal : Bool) (how : WatchAsk) (p q : Result (List PlanRange) PlanFault) (before after : Option (List ℕ)) (x : SinkState) → ShowsBarsOf terminal how p q (Err NoMemory) before after x x
memory_unshown terminal how (Ok old) (Ok new) before after x = nothing_shown terminal how _ _ before after x
memory_unshown terminal how (Ok old) (Err fault) before after x = refl
memory_unshown terminal how (Err fault) q before after x = refl
