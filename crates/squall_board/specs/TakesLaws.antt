-- Laws of what boards take, and of the boards of reports.
use Rattle.std.specs.Prelude.{◌≡◌, ◌≢◌, ℕ, ◌+◌, ◌<◌, ◌≤◌, true, false, nat_lt, nat_le, ◌||◌, List, [], ◌∷◌, ◌++◌, Result, OnOk}
use Rattle.std.proofs.Common.{sym, ap, refl, subst, ◌∙◌, arith}
use Rattle.std.proofs.lemmas.Bool.{true≢false}
use Rattle.std.proofs.lemmas.Bool.Decides.{nat_tests}
use Rattle.std.proofs.lemmas.Result.{on_ok_weaker}
use Rattle.std.specs.Cmp.{first_so, second_so}
use Rattle.squall_key.specs.Keys.{top, part_limit}
use Rattle.squall_span.specs.Spans.{Interval}
use Rattle.squall_join.specs.Pairs.{pair_of}
use Rattle.squall_join.specs.declared.flat.Flat.TheVariants.{One}
use Rattle.squall_report.specs.declared.report.ReportKind.{ReportKind}
use Rattle.squall_report.specs.declared.report.ReportKind.TheVariants.{Loaded, Done, Opened, Issued}
use Rattle.squall_report.specs.Issues.{PlanPair}
use Rattle.squall_report.specs.Facts.{is_report, is_key_span, is_opening}
use Rattle.squall_report.specs.Cells.{place_at, is_cell_place}
use Rattle.squall_report.specs.Told.{Told, both_issued, told_by_report, SameTold, TellsBoth}
use Rattle.squall_board.specs.Boards.{CellValue, cell_bottom, BoardValue, IsBoard, HasTaken, board_join, told, report_board}
use Rattle.squall_board.specs.BoardLaws.{same_board, report_tells, cell_board_is, opening_board_is, issue_board_is, joined_tells, has_both, one_tells}
use Rattle.squall_board.specs.Takes.{Takes}

-- ---- what is taken

pub same_told : (t : Told) → SameTold t t
same_told t = record { facts = λ f. refl; issues = λ n. refl }

pub told_back : (t u : Told) → SameTold t u → SameTold u t
told_back t u same = record { facts = λ f. sym (same.facts f); issues = λ n. sym (same.issues n) }

-- the join of two boards is what one becomes when it takes the other
pub takes : (x y : BoardValue) (t : Told) → IsBoard x → IsBoard y → SameTold (told y) t → Takes x y t (board_join x y)
takes x y t a b same = record {
  joined = refl;
  tells = both;
  taken = λ rs qs h g. has_both (told (board_join x y)) (told x) t rs qs both h g;
}
  where
    both : TellsBoth (told (board_join x y)) (told x) t
    both = joined_tells x y t a b same

-- the same, for a call that changes a board in place
pub took : {T E : Type 0} (r : Result T E) (new x y z : BoardValue) (t : Told) → x ≡ z → OnOk r (new ≡ board_join x y) → IsBoard x → IsBoard y → SameTold (told y) t → OnOk r (Takes z y t new)
took r new x y z t is ok a b same = on_ok_weaker r (λ (e : new ≡ board_join x y). subst (λ v. Takes v y t new) is (subst (λ v. Takes x y t v) (sym e) (takes x y t a b same))) ok

-- what is taken may be said in other words
pub takes_as : (x y new : BoardValue) (t u : Told) → Takes x y t new → SameTold t u → Takes x y u new
takes_as x y new t u k same = record {
  joined = k.joined;
  tells = record {
    facts = λ f. k.tells.facts f ∙ ap (λ v. (told x).says f || v) (same.facts f);
    issues = λ n. k.tells.issues n ∙ ap (both_issued ((told x).issues n)) (same.issues n);
  };
  taken = λ rs qs h g. k.taken rs qs h (record { facts = λ f. same.facts f ∙ g.facts f; issues = λ n. same.issues n ∙ g.issues n });
}

pub took_as : {T E : Type 0} (r : Result T E) (x y new : BoardValue) (t u : Told) → OnOk r (Takes x y t new) → SameTold t u → OnOk r (Takes x y u new)
took_as r x y new t u ok same = on_ok_weaker r (λ (k : Takes x y t new). takes_as x y new t u k same) ok

-- a board that takes one report has taken it after those that it had taken
pub takes_one : (x y new : BoardValue) (r : ReportKind PlanPair) (rs : List (ReportKind PlanPair)) → Takes x y (told_by_report r) new → HasTaken x rs → HasTaken new (rs ++ r ∷ [])
takes_one x y new r rs k h = k.taken rs (r ∷ []) h (one_tells r)

-- ---- boards of reports

span_keys : (s : Interval) → is_key_span s ≡ true → s.lo < s.hi
span_keys s h = let lt : nat_lt s.lo s.hi ≡ true = first_so _ _ h in grind (arith, nat_tests)

span_ends : (s : Interval) → is_key_span s ≡ true → s.hi ≤ top
span_ends s h = let le : nat_le s.hi top ≡ true = second_so (nat_lt s.lo s.hi) _ h in grind (arith, nat_tests)

from_one : (n : ℕ) → nat_le 1 n ≡ true → 1 ≤ n
from_one n h = grind (arith, nat_tests)

opened_below : (n s : ℕ) → is_opening n s ≡ true → s + 1 ≤ part_limit
opened_below n s h = let lt : nat_lt s part_limit ≡ true = second_so (nat_le 1 n) _ h in grind (arith, nat_tests)

loaded_kept : (s : Interval) (v : CellValue) → v ≡ pair_of (s ∷ []) false → v ≢ cell_bottom
loaded_kept s v h e = some_none (ap (λ (w : CellValue). w.first) (sym h ∙ e))
  where
    some_none : s ∷ [] ≡ [] → ⊥
    some_none x = cc

done_kept : (v : CellValue) → v ≡ pair_of [] true → v ≢ cell_bottom
done_kept v h e = true≢false (ap (λ (w : CellValue). w.second) (sym h ∙ e))

-- the board of a report within the limits is a board
pub report_board_is : (r : ReportKind PlanPair) → is_report r ≡ true → IsBoard (report_board r)
report_board_is (Loaded number sub part span) h =
    let is = second_so (is_cell_place (place_at number sub part)) _ h in
    cell_board_is (place_at number sub part) (pair_of (span ∷ []) false) (first_so _ _ h) (((span_keys span is, tt, tt), (span_ends span is, tt)), tt) (loaded_kept span _ refl)
report_board_is (Done number sub part) h = cell_board_is (place_at number sub part) (pair_of [] true) h ((tt, tt), tt) (done_kept _ refl)
report_board_is (Opened number sub) h = opening_board_is number (sub + 1) (from_one number (first_so _ _ h)) (omega arith) (opened_below number sub h)
report_board_is (Issued number issue) h = issue_board_is number (One issue) (from_one number h)

-- a board that tells what the report tells is its board
pub one_board : (d : BoardValue) (r : ReportKind PlanPair) → IsBoard d → is_report r ≡ true → SameTold (told d) (told_by_report r) → d ≡ report_board r
one_board d r is h e = same_board d (report_board r) is.nested (report_board_is r h).nested (record { facts = λ f. e.facts f ∙ sym ((report_tells r).facts f); issues = λ n. e.issues n ∙ sym ((report_tells r).issues n) })
