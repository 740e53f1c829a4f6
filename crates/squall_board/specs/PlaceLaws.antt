-- What is found at the places of the cells of a board.
use Rattle.std.specs.Prelude.{◌≡◌, ℕ, ◌<◌, ◌==◌, false, cond, List, [], ◌∷◌, Some}
use Rattle.std.proofs.Common.{ap, ◌∙◌, arith}
use Rattle.std.proofs.lemmas.Bool.Decides.{nat_tests}
use Rattle.std.specs.List.{AllByRecursion}
use Rattle.std.specs.Ordering.{nat_cmp}
use Rattle.std.specs.FinMap.Entries.{find}
use Rattle.squall_report.specs.Cells.{place_at}
use Rattle.squall_board.specs.Boards.{Parts, Subs, BoardValue, cells_in, found_in, cell_of, IsBoard}
use Rattle.squall_board.specs.Listed.{cell_entry, entry_value, cells_of_parts, cells_of_subs, cells_of}
use Rattle.squall_board.specs.ListedLaws.{KeysRise, SubsRise, keys_rise, numbers_keys, all_both, all_weaker, all_map, all_flat, cmp_eq, same_key}

-- ---- each cell is found at its place

later_key : (k q : ℕ) → k < q → (k == q) ≡ false
later_key k q lt = grind (arith, nat_tests)

all_found : {V : Type 0} (es : List (ℕ × V)) → KeysRise es → AllByRecursion (λ e. find nat_cmp e.0 es ≡ Some e.1) es
all_found [] r = tt
all_found (e ∷ es) r = (
  ap (λ b. cond b (Some e.1) (find nat_cmp e.0 es)) (cmp_eq e.0 e.0 ∙ same_key e.0),
  all_both (λ d. e.0 < d.0) (λ d. find nat_cmp d.0 es ≡ Some d.1) (λ d. find nat_cmp d.0 (e ∷ es) ≡ Some d.1) es r.0 (all_found es r.1)
      (λ d lt f. ap (λ b. cond b (Some e.1) (find nat_cmp d.0 es)) (cmp_eq d.0 e.0 ∙ later_key e.0 d.0 lt) ∙ f),
)

module _ (b : BoardValue) where
  parts_found : (n s : ℕ) (parts : Parts) → KeysRise parts → found_in s (find nat_cmp n (cells_in b)) ≡ Some parts → AllByRecursion (λ c. cell_of b c.cell ≡ Some (entry_value c)) (cells_of_parts n s parts)
  parts_found n s parts r h = all_map (λ e. cell_entry (place_at n s e.0) e.1) (λ c. cell_of b c.cell ≡ Some (entry_value c)) parts
      (all_weaker (λ e. find nat_cmp e.0 parts ≡ Some e.1) (λ e. cell_of b (place_at n s e.0) ≡ Some e.1) parts (all_found parts r) (λ e f. ap (found_in e.0) h ∙ f))

  subs_found : (n : ℕ) (subs : Subs) → SubsRise subs → find nat_cmp n (cells_in b) ≡ Some subs → AllByRecursion (λ c. cell_of b c.cell ≡ Some (entry_value c)) (cells_of_subs n subs)
  subs_found n subs r h = all_flat (λ e. cells_of_parts n e.0 e.1) (λ c. cell_of b c.cell ≡ Some (entry_value c)) subs
      (all_both (λ e. find nat_cmp e.0 subs ≡ Some e.1) (λ e. KeysRise e.1) (λ e. AllByRecursion (λ c. cell_of b c.cell ≡ Some (entry_value c)) (cells_of_parts n e.0 e.1)) subs (all_found subs r.0) r.1
      (λ e f k. parts_found n e.0 e.1 k (ap (found_in e.0) h ∙ f)))

-- each cell of a board is found at its place
pub cells_found : (b : BoardValue) → IsBoard b → AllByRecursion (λ c. cell_of b c.cell ≡ Some (entry_value c)) (cells_of b)
cells_found b is = all_flat (λ e. cells_of_subs e.0 e.1) (λ c. cell_of b c.cell ≡ Some (entry_value c)) (cells_in b)
    (all_both (λ e. find nat_cmp e.0 (cells_in b) ≡ Some e.1) (λ e. SubsRise e.1) (λ e. AllByRecursion (λ c. cell_of b c.cell ≡ Some (entry_value c)) (cells_of_subs e.0 e.1)) (cells_in b) (all_found (cells_in b) (keys_rise (cells_in b) is.nested.1.sorted)) (numbers_keys (cells_in b) is.nested.1)
    (λ e f k. subs_found b e.0 e.1 k f))
