-- A bad line is one line.
use Rattle.std.proofs.Common.{◌≡◌, ℕ, [], ◌∷◌, ◌++◌, true, refl, subst}
use Rattle.std.proofs.lemmas.List.{append-nil}
use Rattle.std.specs.Prelude.{codes}
use Rattle.std.specs.Fmt.{decimal}
use Rattle.squall_cli_words.specs.declared.reason.Reason.{Reason}
use Rattle.squall_cli_words.specs.declared.reason.Reason.TheVariants.{Long, Word, Order, Limit, Plan}
use Rattle.squall_cli_words.specs.Reasons.{text_of_reason, bad_line}
use Rattle.squall_cli_words.specs.Endings.{EndsInBadLine}
use Rattle.squall_cli_words.proofs.LineTexts.{no_lf, no_lf-append, decimal_no_lf, fault_no_lf, Spells, spells_lf, spells_glued, last_is}

reason_no_lf : (reason : Reason) → no_lf (text_of_reason reason) ≡ true
reason_no_lf Long = refl
reason_no_lf Word = refl
reason_no_lf Order = refl
reason_no_lf Limit = refl
reason_no_lf (Plan fault) = fault_no_lf fault

pub bad_line_no_lf : (n : ℕ) (reason : Reason) → no_lf (bad_line n reason) ≡ true
bad_line_no_lf n reason = no_lf-append (decimal n) (codes ": " ++ text_of_reason reason) (decimal_no_lf n) (reason_no_lf reason)

-- a bad line with its LF is that line
pub bad_line_spells : (n : ℕ) (reason : Reason) → Spells (bad_line n reason ++ codes "\n") (bad_line n reason ∷ [])
bad_line_spells n reason =
    subst (λ line. Spells (bad_line n reason ++ codes "\n") (line ∷ [])) (append-nil (bad_line n reason)) (spells_glued (bad_line n reason) (codes "\n") [] [] (bad_line_no_lf n reason) spells_lf)

-- a text of a bad line ends in it
pub bad_line_ends : (n : ℕ) (reason : Reason) → EndsInBadLine (bad_line n reason ++ codes "\n")
bad_line_ends n reason = (n, reason, last_is (bad_line n reason ++ codes "\n") [] (bad_line n reason) (bad_line_spells n reason))
