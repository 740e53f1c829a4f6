-- What is put in makes a repair.
use Rattle.std.specs.Prelude.{◌≡◌, ℕ, ◌<◌, ◌+◌, Bool, length, List, [], ◌∷◌}
use Rattle.std.proofs.Common.{sym, ap, subst, ◌∙◌, drop, get_or}
use Rattle.std.proofs.lemmas.List.{drop_more}
use Rattle.squall_join.specs.declared.flat.Flat.{Flat}
use Rattle.squall_report.specs.Issues.{PlanPair}
use Rattle.squall_board.specs.declared.opening.Opening.{Opening}
use Rattle.squall_board.specs.Boards.{Cells, BoardValue, cells_in, empty_board, IsBoard}
use Rattle.squall_board.specs.Listed.{openings_of, issues_of}
use Rattle.squall_wire.specs.DigestValue.{DigestValue}
use Rattle.squall_delta.specs.Repairs.{IsRepair}
use Rattle.squall_delta.specs.Kept.{with_kept, with_newer_openings, with_lacking_issues, with_lacking_cells}
use Rattle.squall_delta.specs.KeptLaws.{lacking_repairs}

-- one item more is put in
pub next_kept : {X : Type 0} (keep : X → Bool) (make : X → BoardValue) (now new old : BoardValue) (xs : List X) (i : ℕ) (x : X) → i < length xs → x ≡ get_or xs i x → with_kept keep make now (drop i xs) ≡ old → new ≡ with_kept keep make now (x ∷ []) → with_kept keep make new (drop (i + 1) xs) ≡ old
next_kept keep make now new old xs i x lt is before step =
    ap (λ b. with_kept keep make b (drop (i + 1) xs)) step
    ∙ sym (ap (with_kept keep make now) (drop_more xs i x lt ∙ ap (λ v. v ∷ drop (i + 1) xs) (sym is)))
    ∙ before

pub repaired : (b : BoardValue) (d : DigestValue) (first second third fourth : BoardValue) (os : List Opening) (es : List (ℕ × Flat PlanPair)) (cs : Cells) → IsBoard b → first ≡ empty_board → os ≡ openings_of b → es ≡ issues_of b → cs ≡ cells_in b
    → second ≡ with_newer_openings d.openings first os → third ≡ with_lacking_issues d second es → fourth ≡ with_lacking_cells d third cs → IsRepair b d fourth
repaired b d first second third fourth os es cs is none opened issued celled x y z = subst (IsRepair b d) (sym (z ∙ (λ i. with_lacking_cells d (path i) (celled i)))) (lacking_repairs b d is)
  where
    path : third ≡ with_lacking_issues d (with_newer_openings d.openings empty_board (openings_of b)) (issues_of b)
    path = y ∙ (λ i. with_lacking_issues d (x i) (issued i)) ∙ (λ i. with_lacking_issues d (with_newer_openings d.openings (none i) (opened i)) (issues_of b))
