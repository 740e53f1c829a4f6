-- The lists of a board, one entry after another.
use Rattle.std.specs.Prelude.{◌≡◌, ◌≢◌, ℕ, ◌<◌, suc, zero, length, List, [], ◌∷◌, Bool, true, false, not, Result, IfOk, IsTrue, ◌↔◌, Some, cond, refl}
use Rattle.std.proofs.Common.{sym, subst, ap, ◌∙◌, arith, get_or, true≢false}
use Rattle.std.proofs.lemmas.Cmp.{tied_itself, nat_cmp_total}
use Rattle.std.proofs.lemmas.Result.{IfOk-weaker}
use Rattle.std.specs.List.{AllByRecursion}
use Rattle.std.specs.Ordering.{nat_cmp, is_eq}
use Rattle.std.specs.FinMap.Entries.{find}
use Rattle.squall_join.specs.declared.flat.Flat.{Flat}
use Rattle.squall_join.specs.declared.flat.Flat.TheVariants.{Unknown}
use Rattle.squall_join.specs.Entries.{IsMap}
use Rattle.squall_join.specs.Looked.{looked}
use Rattle.squall_report.specs.Issues.{PlanPair}
use Rattle.squall_board.specs.declared.opening.Opening.{Opening}
use Rattle.squall_board.specs.Boards.{Parts, Subs, Cells, Openings, Issues, BoardValue, openings_in, issues_in, cells_in, issue_is, issued, IsBoard}
use Rattle.squall_board.specs.Listed.{CellEntry, AreCellsOfParts, AreCellsOfSubs, AreCellsOfNumbers, AreSomeRows, cells_of, AreCells, openings_of_counts, AreOpenings, AreIssues}
use Rattle.squall_board.specs.ListedLaws.{board_cells, cells_listed, openings_listed, issues_listed}

all_get : {X : Type 0} (P : X → Type 0) (xs : List X) (i : ℕ) (d : X) → i < length xs → AllByRecursion P xs → P (get_or xs i d)
all_get P [] i d lt h = absurd (omega (arith, lt))
all_get P (x ∷ xs) zero d lt h = h.0
all_get P (x ∷ xs) (suc i) d lt h = all_get P xs i d (omega (arith, lt)) h.1

pub all_at : {X : Type 0} (P : X → Type 0) (xs : List X) (i : ℕ) (x : X) → i < length xs → x ≡ get_or xs i x → AllByRecursion P xs → P x
all_at P xs i x lt is h = subst P (sym is) (all_get P xs i x lt h)

-- what the loops over the entries of a map of maps require of the next
pub parts_at : (n : ℕ) (subs : Subs) (i : ℕ) (e : ℕ × Parts) (parts : Parts) → i < length subs → e ≡ get_or subs i e → parts ≡ e.1 → AreCellsOfSubs n subs → AreCellsOfParts n e.0 parts
parts_at n subs i e parts lt is same h = subst (λ v. AreCellsOfParts n e.0 v) (sym same) (all_at (λ d. AreCellsOfParts n d.0 d.1) subs i e lt is h)

-- each row of a number has a cell
pub some_at : (numbers : Cells) (i : ℕ) (e : ℕ × Subs) (subs : Subs) → i < length numbers → e ≡ get_or numbers i e → subs ≡ e.1 → AreSomeRows numbers → AllByRecursion (λ d. d.1 ≢ []) subs
some_at numbers i e subs lt is same h = subst (λ v. AllByRecursion (λ d. d.1 ≢ []) v) (sym same) (all_at (λ d. AllByRecursion (λ f. f.1 ≢ []) d.1) numbers i e lt is h)

pub subs_at : (numbers : Cells) (i : ℕ) (e : ℕ × Subs) (subs : Subs) → i < length numbers → e ≡ get_or numbers i e → subs ≡ e.1 → AreCellsOfNumbers numbers → AreCellsOfSubs e.0 subs
subs_at numbers i e subs lt is same h = subst (λ v. AreCellsOfSubs e.0 v) (sym same) (all_at (λ d. AreCellsOfSubs d.0 d.1) numbers i e lt is h)

pub numbers_of : (x : BoardValue) (numbers : Cells) → IsBoard x → numbers ≡ cells_in x → AreCellsOfNumbers numbers
numbers_of x numbers is same = subst AreCellsOfNumbers (sym same) (board_cells x is)

-- ---- what the lists are

pub cells_are : (b : BoardValue) (cs : List CellEntry) → IsBoard b → cs ≡ cells_of b → AreCells b cs
cells_are b cs is same = subst (AreCells b) (sym same) (cells_listed b is)

pub openings_are : {V E : Type 0} (r : Result V E) (list : V → List Opening) (counts : Openings) (b x : BoardValue) → IsBoard b → x ≡ b → counts ≡ openings_in x → IfOk r (λ os. list os ≡ openings_of_counts counts) → IfOk r (λ os. AreOpenings b (list os))
openings_are r list counts b x is view same ok = IfOk-weaker r (λ os. list os ≡ openings_of_counts counts) (λ os. AreOpenings b (list os)) (λ os e.
    subst (AreOpenings b) (sym (e ∙ ap openings_of_counts (same ∙ ap openings_in view))) (openings_listed b is)) ok

pub issues_are : {V E : Type 0} (r : Result V E) (list : V → List (ℕ × Flat PlanPair)) (es : List (ℕ × Flat PlanPair)) (b x : BoardValue) → IsBoard b → x ≡ b → es ≡ issues_in x → IfOk r (λ os. list os ≡ es) → IfOk r (λ os. AreIssues b (list os))
issues_are r list es b x is view same ok = IfOk-weaker r (λ os. list os ≡ es) (λ os. AreIssues b (list os)) (λ os e.
    subst (AreIssues b) (sym (e ∙ (same ∙ ap issues_in view))) (issues_listed b is)) ok

-- a map with an entry issues something under the number of its first
entry_issued : (es : Issues) → IsMap nat_cmp issue_is Unknown es → (es ≡ [] → ⊥) → (n : ℕ) × (looked Unknown (find nat_cmp n es) ≢ Unknown)
entry_issued [] m some = absurd (some refl)
entry_issued (e ∷ es) m some = (e.0, λ same. m.kept.0.1 (sym (ap (λ b. looked Unknown (cond b (Some e.1) (find nat_cmp e.0 es))) (ap is_eq (tied_itself nat_cmp_total e.0))) ∙ same))

-- a board whose issues are not the empty map issues something
pub has_some : (empty : Bool) (x b : BoardValue) → x ≡ b → IsBoard b → (IsTrue empty ↔ (issues_in x ≡ [])) → IsTrue (not empty) → (n : ℕ) × (issued b n ≢ Unknown)
has_some true x b view is empty t = absurd (true≢false (sym t))
has_some false x b view is empty t = entry_issued (issues_in b) is.nested.0.1 (λ none. true≢false (sym (empty.1 (ap issues_in view ∙ none))))
