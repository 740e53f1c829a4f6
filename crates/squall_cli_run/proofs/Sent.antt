-- What is written of a text that is ready.
use Rattle.std.proofs.Common.{◌≡◌, ℕ, List, [], ◌++◌, take, drop, sym, ap, ◌∙◌}
use Rattle.std.proofs.lemmas.List.{take-append-drop}
use Rattle.squall_cli_lines.specs.Script.{IsPrefix}
use Rattle.squall_cli_lines.specs.declared.Ended.{Ended}
use Rattle.squall_cli_lines.specs.declared.Ended.TheVariants.{Fine, Refused}
use Rattle.squall_cli_run.specs.Output.{Output, IsReady}

text_ready : (ended : Ended) (text : List ℕ) (said : Output) → IsReady ended text said → text ≡ said.text
text_ready Fine text said h = h.0
text_ready Refused text said h = h.0

pub front_ready : (ended : Ended) (text : List ℕ) (n : ℕ) (said : Output) → IsReady ended text said → IsPrefix (take n text) said.text
front_ready ended text n said h = (drop n text, sym (text_ready ended text said h) ∙ sym (take-append-drop n text))

-- a text of what is shown, which was added to an empty one
pub front_shown : (text old new shown : List ℕ) (n : ℕ) → text ≡ new → new ≡ old ++ shown → old ≡ [] → IsPrefix (take n text) shown
front_shown text old new shown n here added fresh = (drop n text, sym (ap (λ w. w ++ shown) fresh) ∙ sym added ∙ sym here ∙ sym (take-append-drop n text))
