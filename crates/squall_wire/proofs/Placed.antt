-- What is written of cells.
use Rattle.std.specs.Prelude.{◌≡◌, ℕ, ◌≤◌, length, map, Bool, List, [], ◌∷◌, ◌++◌, refl}
use Rattle.std.proofs.Common.{sym, ap, subst, ◌∙◌, take, append_assoc}
use Rattle.std.proofs.lemmas.List.{length-map, take_all}
use Rattle.std.specs.List.{flat_map, AllByRecursion}
use Rattle.squall_span.specs.Spans.{Interval}
use Rattle.squall_report.specs.Cells.{CellPlace}
use Rattle.squall_board.specs.Listed.{CellEntry, entry_with}
use Rattle.squall_board.specs.ListedLaws.{all_map}
use Rattle.squall_wire.specs.Spelling.{word, spell_list, spell_place, spell_done, spell_span, spell_cell}
use Rattle.squall_wire.specs.Fits.{IsWordCell}

-- a cell is written as what comes before its spans, and its spans
pub cell_written : (place : CellPlace) (complete : Bool) (spans ss : List Interval) (old head now new : List ℕ) → ss ≡ spans → head ≡ spell_place place ++ (spell_done complete ++ word (length ss)) → now ≡ old ++ head → new ≡ now ++ flat_map spell_span ss → new ≡ old ++ spell_cell (entry_with place complete spans)
cell_written place complete spans ss old head now new same is step last =
    last
    ∙ ap (λ v. v ++ flat_map spell_span ss) step
    ∙ append_assoc old head (flat_map spell_span ss)
    ∙ ap (λ v. old ++ (v ++ flat_map spell_span ss)) is
    ∙ ap (λ v. old ++ spell_cell (entry_with place complete v)) same

-- what is written, and what is known, once no cell is left
pub all_written : {X : Type 0} (f : X → List ℕ) (old n : List ℕ) (xs : List X) (i : ℕ) (now : List ℕ) → length xs ≤ i → now ≡ old ++ (n ++ flat_map f (take i xs)) → now ≡ old ++ (n ++ flat_map f xs)
all_written f old n xs i now le is = is ∙ ap (λ v. old ++ (n ++ flat_map f v)) (take_all i xs le)

pub all_known : {X : Type 0} (P : X → Type 0) (xs : List X) (i : ℕ) → length xs ≤ i → AllByRecursion P (take i xs) → AllByRecursion P xs
all_known P xs i le h = subst (AllByRecursion P) (take_all i xs le) h

-- ---- cells that are seen as entries

module _ {X : Type 0} (g : X → CellEntry) where
  entries_bytes : (xs : List X) → flat_map (λ x. spell_cell (g x)) xs ≡ flat_map spell_cell (map g xs)
  entries_bytes [] = refl
  entries_bytes (x ∷ xs) = ap (λ v. spell_cell (g x) ++ v) (entries_bytes xs)

  pub entries_spelled : (cs list : List X) (entries : List CellEntry) → cs ≡ list → map g list ≡ entries → spell_list (λ x. spell_cell (g x)) cs ≡ spell_list spell_cell entries
  entries_spelled cs list entries same listed =
      ap (spell_list (λ x. spell_cell (g x))) same
      ∙ ap (λ v. word (length list) ++ v) (entries_bytes list)
      ∙ ap (λ n. word n ++ flat_map spell_cell (map g list)) (sym (length-map list g))
      ∙ ap (spell_list spell_cell) listed

  pub entries_words : (cs list : List X) (entries : List CellEntry) → cs ≡ list → map g list ≡ entries → AllByRecursion (λ x. IsWordCell (g x)) cs → AllByRecursion IsWordCell entries
  entries_words cs list entries same listed words = subst (AllByRecursion IsWordCell) listed (all_map g IsWordCell list (subst (AllByRecursion (λ x. IsWordCell (g x))) same words))
