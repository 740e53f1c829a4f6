-- Two reports tell the same in either order.
use Rattle.std.specs.Prelude.{◌≡◌, Bool, true, false, ◌||◌, [], ◌∷◌, refl}
use Rattle.std.proofs.Common.{sym, ap, ◌∙◌}
use Rattle.squall_join.specs.declared.flat.Flat.{Flat}
use Rattle.squall_join.specs.declared.flat.Flat.TheVariants.{Unknown}
use Rattle.squall_report.specs.declared.report.ReportKind.{ReportKind}
use Rattle.squall_report.specs.Issues.{PlanPair}
use Rattle.squall_report.specs.Facts.{report_says}
use Rattle.squall_report.specs.Told.{SameTold, told_by, both_issued, report_issues}
use Rattle.squall_report.specs.ToldLaws.{issued_assoc, issued_comm}

or_swap : (x y : Bool) → (x || (y || false)) ≡ (y || (x || false))
or_swap true true = refl
or_swap true false = refl
or_swap false true = refl
or_swap false false = refl

issued_swap : (x y : Flat PlanPair) → both_issued x (both_issued y Unknown) ≡ both_issued y (both_issued x Unknown)
issued_swap x y = sym (issued_assoc x y Unknown) ∙ ap (λ z. both_issued z Unknown) (issued_comm x y) ∙ issued_assoc y x Unknown

pub swapped : (a b : ReportKind PlanPair) → SameTold (told_by (b ∷ a ∷ [])) (told_by (a ∷ b ∷ []))
swapped a b = record {
  facts = λ f. or_swap (report_says b f) (report_says a f);
  issues = λ n. issued_swap (report_issues b n) (report_issues a n);
}
