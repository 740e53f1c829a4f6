-- Laws of rows: of the cells of one number and sub-plan.
use Rattle.std.specs.Prelude.{◌≡◌, ◌≢◌, ℕ, ◌==◌, Bool, true, false, ◌&&◌, ◌||◌, List, [], ◌∷◌, refl}
use Rattle.std.proofs.Common.{sym, ap, subst, ◌∙◌, arith, inl, inr}
use Rattle.std.proofs.lemmas.Bool.{true≢false, and_from}
use Rattle.std.proofs.lemmas.Bool.Decides.{nat_tests}
use Rattle.std.specs.List.{list_any, AllByRecursion}
use Rattle.std.specs.Ordering.{nat_cmp}
use Rattle.std.specs.Cmp.{first_so, second_so}
use Rattle.squall_join.specs.Entries.{IsMap, IsKept}
use Rattle.squall_join.specs.Facts.{map_says}
use Rattle.squall_report.specs.Cells.{CellPlace, place_at}
use Rattle.squall_report.specs.Facts.{Fact, LoadedKey, DonePart, OpenedSub, is_fact}
use Rattle.squall_board.specs.Boards.{CellValue, Parts, Subs, Cells, BoardValue, cells_in, cell_is, cell_bottom, is_nested, says, IsBoard, row_board}
use Rattle.squall_board.specs.BoardLaws.{says_single, key_below}
use Rattle.squall_board.specs.Listed.{CellEntry, cell_entry, IsCell, AreCellsOfParts, AreSomeRows}
use Rattle.squall_board.specs.ListedLaws.{CellFact, says_cell, says_some, keys_rise, all_weaker}

same_number : (n m : ℕ) → (n == m) ≡ true → n ≡ m
same_number n m e = grind (arith, nat_tests)

either_true : (P : Type 0) (a b : Bool) → (a ≡ true → P) → (b ≡ true → P) → (a || b) ≡ true → P
either_true P true b f g e = f refl
either_true P false b f g e = g e

-- a fact of a row is one of a cell of it
in_row : (P : Type 0) (n s q : ℕ) (f : CellFact) (parts : Parts) → AreCellsOfParts n s parts → ((v : CellValue) → IsCell (cell_entry (place_at n s q) v) → says_cell v f ≡ true → P) → list_any (λ e. (e.0 == q) && says_cell e.1 f) parts ≡ true → P
in_row P n s q f [] cells found t = absurd (true≢false (sym t))
in_row P n s q f (e ∷ es) cells found t = either_true P ((e.0 == q) && says_cell e.1 f) (list_any (λ e. (e.0 == q) && says_cell e.1 f) es)
    (λ h. found e.1 (subst (λ k. IsCell (cell_entry (place_at n s k) e.1)) (same_number e.0 q (first_so _ _ h)) cells.0) (second_so (e.0 == q) _ h))
    (in_row P n s q f es cells.1 found)
    t

module _ (n s : ℕ) (parts : Parts) (map : IsMap nat_cmp cell_is cell_bottom parts) (cells : AreCellsOfParts n s parts) where
  -- what a row says, a cell of it says
  row_says : (P : ℕ → ℕ → Type 0) (m t q : ℕ) (f : CellFact) → ((v : CellValue) → IsCell (cell_entry (place_at n s q) v) → says_cell v f ≡ true → P n s) → map_says nat_cmp (map_says nat_cmp (map_says nat_cmp says_cell)) (cells_in (row_board n s parts)) (m, (t, (q, f))) ≡ true → P m t
  row_says P m t q f found e =
      let h = sym (says_single (map_says nat_cmp (map_says nat_cmp says_cell)) n _ m (t, (q, f)) ∙ ap (λ x. (n == m) && x) (says_single (map_says nat_cmp says_cell) s _ t (q, f))) ∙ e in
      let y = second_so (n == m) _ h in
      let z = in_row (P n s) n s q f parts cells found (sym (says_some says_cell parts (keys_rise parts map.sorted) q f) ∙ second_so (s == t) _ y) in
      subst (λ k. P k t) (same_number n m (first_so _ _ h)) (subst (P n) (same_number s t (first_so _ _ y)) z)

  row_facts : (f : Fact) → says (row_board n s parts) f ≡ true → is_fact f ≡ true
  row_facts (LoadedKey c k) e = row_says (λ m t. is_fact (LoadedKey (place_at m t c.part) k) ≡ true) c.number c.sub c.part (inl k) (λ v is h. and_from _ _ (first_so _ _ is.entry) (key_below v.first k is.spans h)) e
  row_facts (DonePart c) e = row_says (λ m t. is_fact (DonePart (place_at m t c.part)) ≡ true) c.number c.sub c.part (inr tt) (λ v is h. first_so _ _ is.entry) e
  row_facts (OpenedSub m t) e = absurd (true≢false (sym e))

-- the maps of one row are in order
pub row_nested : (n s : ℕ) (parts : Parts) → IsMap nat_cmp cell_is cell_bottom parts → parts ≢ [] → is_nested (row_board n s parts)
row_nested n s parts map some = (
  (record { sorted = tt; kept = tt }, record { sorted = tt; kept = tt }),
  record { sorted = tt; kept = ((record { sorted = tt; kept = ((map, some), tt) }, λ e. cc), tt) },
)

-- a row of cells is a board
pub row_board_is : (n s : ℕ) (parts : Parts) → IsMap nat_cmp cell_is cell_bottom parts → AreCellsOfParts n s parts → parts ≢ [] → IsBoard (row_board n s parts)
row_board_is n s parts map cells some = record {
  nested = row_nested n s parts map some;
  facts = row_facts n s parts map cells;
  issues = λ m. inr refl;
}

-- each row of a board has a cell
pub some_rows : (b : BoardValue) → IsBoard b → AreSomeRows (cells_in b)
some_rows b is = all_weaker (λ e. IsKept (IsMap nat_cmp (IsMap nat_cmp cell_is cell_bottom) []) [] e.1) (λ e. AllByRecursion (λ d. d.1 ≢ []) e.1) (cells_in b) is.nested.1.kept
    (λ e k. all_weaker (λ d. IsKept (IsMap nat_cmp cell_is cell_bottom) [] d.1) (λ d. d.1 ≢ []) e.1 k.0.kept (λ d j. j.1))
