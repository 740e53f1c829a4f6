-- What the lists of a board tell.
use Rattle.std.specs.Prelude.{◌≡◌, ℕ, false, ◌||◌, List, refl}
use Rattle.std.proofs.Common.{sym, ap, ◌∙◌}
use Rattle.squall_report.specs.Cells.{CellPlace}
use Rattle.squall_report.specs.Facts.{Fact, LoadedKey, DonePart, OpenedSub}
use Rattle.squall_report.specs.Told.{SameTold}
use Rattle.squall_board.specs.declared.opening.Opening.{Opening}
use Rattle.squall_board.specs.Boards.{BoardValue, says, told, IsBoard}
use Rattle.squall_board.specs.BoardLaws.{same_board}
use Rattle.squall_board.specs.Listed.{CellEntry, cells_of, entries_say, openings_of, openings_say, issues_of, told_by_lists}
use Rattle.squall_board.specs.ListedLaws.{or_none, all_true, any_none, cells_listed, openings_listed, issues_listed}

cells_only : (os : List Opening) (c : CellPlace) (k : ℕ) → openings_say os (LoadedKey c k) ≡ false
cells_only os c k = any_none _ os (all_true _ (λ o. refl) os)

done_only : (os : List Opening) (c : CellPlace) → openings_say os (DonePart c) ≡ false
done_only os c = any_none _ os (all_true _ (λ o. refl) os)

opened_only : (cs : List CellEntry) (n s : ℕ) → entries_say cs (OpenedSub n s) ≡ false
opened_only cs n s = any_none _ cs (all_true _ (λ c. refl) cs)

-- the lists of a board tell what it tells
pub lists_tell : (b : BoardValue) → IsBoard b → SameTold (told b) (told_by_lists (openings_of b) (issues_of b) (cells_of b))
lists_tell b is = record { facts = at; issues = (issues_listed b is).issued }
  where
    at : (f : Fact) → says b f ≡ (openings_say (openings_of b) f || entries_say (cells_of b) f)
    at (LoadedKey c k) = (cells_listed b is).loaded c k ∙ sym (ap (λ x. x || entries_say (cells_of b) (LoadedKey c k)) (cells_only (openings_of b) c k))
    at (DonePart c) = (cells_listed b is).done c ∙ sym (ap (λ x. x || entries_say (cells_of b) (DonePart c)) (done_only (openings_of b) c))
    at (OpenedSub n s) = (openings_listed b is).opened n s ∙ or_none _ _ (opened_only (cells_of b) n s)

-- a board that tells what the lists of another tell is that board
pub lists_equal : (b c : BoardValue) → IsBoard b → IsBoard c → SameTold (told c) (told_by_lists (openings_of b) (issues_of b) (cells_of b)) → c ≡ b
lists_equal b c is too same = same_board c b too.nested is.nested (record {
  facts = λ f. same.facts f ∙ sym ((lists_tell b is).facts f);
  issues = λ n. same.issues n ∙ sym ((lists_tell b is).issues n);
})
