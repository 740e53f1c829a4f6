-- Runs that go on by one more event.
use Rattle.std.proofs.Common.{◌≡◌, ℕ, ◌+◌, ◌<◌, List, [], ◌∷◌, ◌++◌, length, take, get_or, sym, ap, subst, ◌∙◌}
use Rattle.std.proofs.lemmas.List.{append-nil, append_assoc, take_more}
use Rattle.squall_protocol.specs.declared.event.Event.{Event}
use Rattle.squall_protocol.specs.declared.answer.Answer.{Answer}
use Rattle.squall_protocol.specs.Worlds.{WorldValue}
use Rattle.squall_protocol.specs.Steps.{Step, Run}
use Rattle.squall_protocol.specs.WorldLaws.{same_as_itself, run_more}
use Rattle.squall_world.specs.Runs.{IsRun}

-- no event
pub no_run : (w : WorldValue) (answers : List Answer) → IsRun w [] answers w answers
no_run w answers = ([], same_as_itself w, sym (append-nil answers))

-- one more event of the list
pub run_on : (w : WorldValue) (es : List Event) (i : ℕ) (before after : List Answer) (v : WorldValue) (e : Event) (r : Answer) (u : WorldValue) → i < length es → e ≡ get_or es i e → IsRun w (take i es) before v after → Step v e r u → IsRun w (take (i + 1) es) before u (after ++ r ∷ [])
run_on w es i before after v e r u lt at run step = (
  run.0 ++ r ∷ [],
  subst (λ l. Run w l (run.0 ++ r ∷ []) u) (sym (take_more es i e lt ∙ ap (λ x. take i es ++ x ∷ []) (sym at))) (run_more w (take i es) run.0 v e r u run.1 step),
  ap (λ l. l ++ r ∷ []) run.2 ∙ append_assoc before run.0 (r ∷ []),
)
