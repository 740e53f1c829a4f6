-- Boards without news: a board that is covered changes neither the join nor what is answered.
use Rattle.std.proofs.Common.{◌≡◌, ℕ, List, [], ◌∷◌, ◌++◌, Bool, true, false, refl, sym, ap, ◌∙◌, append-nil}
use Rattle.std.specs.Prelude.{◌||◌}
use Rattle.std.specs.Str.{bytes_eq}
use Rattle.std.proofs.lemmas.Slice.Eq.{bytes_eq-Decides}
use Rattle.squall_report.specs.Told.{TellsBoth, TellsAll}
use Rattle.squall_board.specs.Boards.{BoardValue, IsBoard, board_join, told, says}
use Rattle.squall_board.specs.BoardLaws.{board_laws, same_board, tells_both}
use Rattle.squall_cli_lines.specs.Lines.{lines_of}
use Rattle.squall_cli_command.specs.declared.form.Form.{Form}
use Rattle.squall_cli_command.specs.declared.form.Form.TheVariants.{Lines, Json}
use Rattle.squall_cli_watch.specs.Changed.{changed, text_of_lines, change_in}

or_same : (a b : Bool) → (b ≡ true → a ≡ true) → (a || b) ≡ a
or_same true b f = refl
or_same false true f = sym (f refl)
or_same false false f = refl

-- a board that covers another one is their join
pub covers_join : (x y : BoardValue) → IsBoard x → IsBoard y → TellsAll (told x) (told y) → board_join x y ≡ x
covers_join x y a b t =
    let both : TellsBoth (told (board_join x y)) (told x) (told y) = tells_both x y a.nested b.nested in
    same_board (board_join x y) x (board_laws.closed x y a.nested b.nested) a.nested (record {
      facts = λ f. both.facts f ∙ or_same (says x f) (says y f) (t.facts f);
      issues = λ n. both.issues n ∙ t.issues n;
    })

same_bytes : (xs : List ℕ) → bytes_eq xs xs ≡ true
same_bytes xs = (bytes_eq-Decides xs xs).1 refl

none_changed : (lines : List (List ℕ)) → changed lines lines ≡ []
none_changed [] = refl
none_changed (line ∷ lines) = rw (same_bytes line, none_changed lines) refl

-- from a text to itself nothing changes
pub nothing_changes : (form : Form) (text : List ℕ) → change_in form text text ≡ []
nothing_changes Lines text = ap text_of_lines (none_changed (lines_of text))
nothing_changes Json text = rw (same_bytes text) refl

-- and nothing is added
pub nothing_added : (form : Form) (text out : List ℕ) → out ≡ out ++ change_in form text text
nothing_added form text out = sym (ap (λ ts. out ++ ts) (nothing_changes form text) ∙ append-nil out)
