-- How the program gets its commands.
use Rattle.std.proofs.Common.{◌≡◌, ◌∙◌, ap₂, subst, Result, Ok}
use Rattle.std.specs.Prelude.{IfOk}
use Rattle.std.proofs.lemmas.Result.{IfOk-weaker}
use Rattle.std.specs.declared.alloc.AllocError.{AllocError}
use Rattle.clap.specs.Words.{App, Shape, app_of, shape_of, with_subcommand}
use Rattle.clap.specs.declared.builder.command.Command.{Command}
use Rattle.squall_cli_command.specs.Commands.{Adds}

-- what holds of an answer holds of its value
of_value : {X E : Type 0} (P : X → Type 0) (r : Result X E) (x : X) → r ≡ Ok x → IfOk r P → P x
of_value {X} {E} P r x is h = subst (λ (q : Result X E). IfOk q P) is h

pub is_added : (a : App) (s : Shape) (program command r : Result Command AllocError)
    → IfOk r (λ c. Adds program command c) → IfOk program (λ c. app_of c ≡ a) → IfOk command (λ c. shape_of c ≡ s)
    → IfOk r (λ c. app_of c ≡ with_subcommand a s)
is_added a s program command r adds app_is shape_is = IfOk-weaker r _ _ (λ c h.
    h.app ∙ ap₂ with_subcommand (of_value (λ p. app_of p ≡ a) program h.before h.made app_is)
    (of_value (λ p. shape_of p ≡ s) command h.sub h.sub_made shape_is)) adds
