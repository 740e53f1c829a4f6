-- The bytes of rows, one cell after another.
use Rattle.std.specs.Prelude.{◌≡◌, ◌≢◌, ℕ, zero, suc, ◌<◌, ◌+◌, length, List, [], ◌∷◌, ◌++◌}
use Rattle.std.proofs.Common.{sym, ap, subst, ◌∙◌, arith, take, get_or}
use Rattle.std.proofs.lemmas.List.{append-nil, take_more, map-append}
use Rattle.std.proofs.lemmas.List.Concat.{flat_map-append}
use Rattle.std.specs.List.{flat_map, AllByRecursion}
use Rattle.squall_report.specs.Cells.{place_at}
use Rattle.squall_board.specs.Boards.{CellValue, Parts, Subs, Cells}
use Rattle.squall_board.specs.Listed.{cell_entry, cells_of_parts, AreCellsOfParts, AreCellsOfSubs, AreCellsOfNumbers, AreSomeRows}
use Rattle.squall_wire.specs.Spelling.{spell_cell}

pub all_get : {X : Type 0} (P : X → Type 0) (xs : List X) (i : ℕ) (d : X) → i < length xs → AllByRecursion P xs → P (get_or xs i d)
all_get P [] i d lt h = absurd (omega (arith, lt))
all_get P (x ∷ xs) zero d lt h = h.0
all_get P (x ∷ xs) (suc i) d lt h = all_get P xs i d (omega (arith, lt)) h.1

-- what holds of each entry of a list holds of the next
pub all_at : {X : Type 0} (P : X → Type 0) (xs : List X) (i : ℕ) (x : X) → i < length xs → x ≡ get_or xs i x → AllByRecursion P xs → P x
all_at P xs i x lt is h = subst P (sym is) (all_get P xs i x lt h)

-- the rows of a number, as its map gives them
pub subs_at : (numbers : Cells) (i : ℕ) (e : ℕ × Subs) (subs : Subs) → i < length numbers → e ≡ get_or numbers i e → subs ≡ e.1 → AreCellsOfNumbers numbers → AreCellsOfSubs e.0 subs
subs_at numbers i e subs lt is same h = subst (λ v. AreCellsOfSubs e.0 v) (sym same) (all_at (λ d. AreCellsOfSubs d.0 d.1) numbers i e lt is h)

-- each row of a number, as its map gives them, has a cell
pub some_at : (numbers : Cells) (i : ℕ) (e : ℕ × Subs) (subs : Subs) → i < length numbers → e ≡ get_or numbers i e → subs ≡ e.1 → AreSomeRows numbers → AllByRecursion (λ d. d.1 ≢ []) subs
some_at numbers i e subs lt is same h = subst (λ v. AllByRecursion (λ d. d.1 ≢ []) v) (sym same) (all_at (λ d. AllByRecursion (λ f. f.1 ≢ []) d.1) numbers i e lt is h)

-- the cells of a row
pub parts_at : (n : ℕ) (subs : Subs) (i : ℕ) (e : ℕ × Parts) → i < length subs → e ≡ get_or subs i e → AreCellsOfSubs n subs → AreCellsOfParts n e.0 e.1
parts_at n subs i e lt is h = all_at (λ d. AreCellsOfParts n d.0 d.1) subs i e lt is h

-- one cell more
pub row_more : (n s : ℕ) (parts : Parts) (i : ℕ) (e : ℕ × CellValue) → i < length parts → e ≡ get_or parts i e
    → flat_map spell_cell (cells_of_parts n s (take (i + 1) parts)) ≡ flat_map spell_cell (cells_of_parts n s (take i parts)) ++ spell_cell (cell_entry (place_at n s e.0) e.1)
row_more n s parts i e lt is =
    ap (λ v. flat_map spell_cell (cells_of_parts n s v)) (take_more parts i e lt ∙ ap (λ v. take i parts ++ v ∷ []) (sym is))
    ∙ ap (flat_map spell_cell) (map-append (λ d. cell_entry (place_at n s d.0) d.1) (take i parts) (e ∷ []))
    ∙ flat_map-append spell_cell (cells_of_parts n s (take i parts)) (cell_entry (place_at n s e.0) e.1 ∷ [])
    ∙ ap (λ v. flat_map spell_cell (cells_of_parts n s (take i parts)) ++ v) (append-nil (spell_cell (cell_entry (place_at n s e.0) e.1)))
