-- What a merge leaves.
use Rattle.std.specs.Prelude.{◌≡◌, ℕ, ◌+◌, ◌<◌, ◌≤◌, ◌==◌, max, length, Bool, true, false, ◌||◌, List, [], ◌∷◌, ◌++◌, Result, Ok, Err, OnOk, OnErr, IsTrue, ◌↔◌, refl}
use Rattle.std.proofs.Common.{sym, ap, subst, ◌∙◌, take, drop, get_or}
use Rattle.std.proofs.lemmas.List.{take_more, drop_more}
use Rattle.std.proofs.lemmas.Result.{on_ok_weaker}
use Rattle.std.specs.declared.alloc.AllocError.{AllocError}
use Rattle.std.specs.Ordering.{nat_cmp}
use Rattle.squall_join.specs.PairLaws.{same_pair}
use Rattle.squall_join.specs.Entries.{merged}
use Rattle.squall_report.specs.declared.report.ReportKind.{ReportKind}
use Rattle.squall_report.specs.Issues.{PlanPair}
use Rattle.squall_report.specs.Cells.{CellPlace}
use Rattle.squall_report.specs.Told.{Told, both_issued, told_by_report, told_by, SameTold, TellsBoth, TellsAll}
use Rattle.squall_board.specs.Boards.{BoardValue, CellValue, Cells, Openings, Issues, board_of, openings_in, issues_in, cells_in, cell_join, cell_board, row_board, Parts, opening_board, issue_board, told_by_issue, board_join, report_board, issued, says, told, IsBoard, HasTaken}
use Rattle.squall_board.specs.declared.update.Issuing.{Issuing}
use Rattle.squall_board.specs.declared.update.Issuing.TheVariants.{One, Clash}
use Rattle.squall_join.specs.declared.flat.Flat.{Flat}
use Rattle.squall_join.specs.declared.flat.Flat.TheVariants.{Unknown}
use Rattle.squall_report.specs.ToldLaws.{issued_neutral}
use Rattle.squall_board.specs.Updates.{issuing_value}
use Rattle.squall_board.specs.BoardLaws.{board_laws, tells_both, same_board, join_is, issue_tells, report_tells, has_both, or_false, unknown_at}
use Rattle.squall_board.specs.Takes.{Takes, TakesReport, TakesReports, TakesBoard, TakesIssue, taking, board_by}
use Rattle.squall_board.specs.TakesLaws.{took_as, takes_one}

pub merged_is : (r : Result (Unit {0}) AllocError) (new x y : BoardValue) → OnOk r (new ≡ board_join x y) → OnErr r (new ≡ x) → IsBoard x → IsBoard y → IsBoard new
merged_is (Ok u) new x y ok err a b = subst IsBoard (sym ok) (join_is x y a b)
merged_is (Err e) new x y ok err a b = subst IsBoard (sym err) a

-- ---- what is joined into one of the three maps; the others are unchanged

merged_none : {V : Type 0} (join : V → V → V) (es : List (ℕ × V)) → merged nat_cmp join es [] ≡ es
merged_none join [] = refl
merged_none join (e ∷ es) = refl

pub cell_put : (r : Result (Unit {0}) AllocError) (new : Cells) (x : BoardValue) (c : CellPlace) (cell : CellValue) (es : Cells) → es ≡ cells_in (cell_board c cell) → OnOk r (new ≡ merged nat_cmp (merged nat_cmp (merged nat_cmp cell_join)) (cells_in x) es)
    → OnOk r (board_of (openings_in x) (issues_in x) new ≡ board_join x (cell_board c cell))
cell_put r new x c cell es is ok = on_ok_weaker r (λ (e : new ≡ merged nat_cmp (merged nat_cmp (merged nat_cmp cell_join)) (cells_in x) es). same_pair _ _ _ _
    (same_pair _ _ _ _ (sym (merged_none _ (openings_in x))) (sym (merged_none _ (issues_in x))))
    (e ∙ ap (merged nat_cmp (merged nat_cmp (merged nat_cmp cell_join)) (cells_in x)) is)) ok

pub row_put : (r : Result (Unit {0}) AllocError) (new : Cells) (x : BoardValue) (n s t : ℕ) (parts ps : Parts) → t ≡ s → ps ≡ parts → OnOk r (new ≡ merged nat_cmp (merged nat_cmp (merged nat_cmp cell_join)) (cells_in x) ((n, (t, ps) ∷ []) ∷ []))
    → OnOk r (board_of (openings_in x) (issues_in x) new ≡ board_join x (row_board n s parts))
row_put r new x n s t parts ps p q ok = on_ok_weaker r (λ (e : new ≡ merged nat_cmp (merged nat_cmp (merged nat_cmp cell_join)) (cells_in x) ((n, (t, ps) ∷ []) ∷ [])). same_pair _ _ _ _
    (same_pair _ _ _ _ (sym (merged_none _ (openings_in x))) (sym (merged_none _ (issues_in x))))
    (e ∙ (λ i. merged nat_cmp (merged nat_cmp (merged nat_cmp cell_join)) (cells_in x) ((n, (p i, q i) ∷ []) ∷ [])))) ok

pub cell_not_put : (r : Result (Unit {0}) AllocError) (new : Cells) (x : BoardValue) → OnErr r (new ≡ cells_in x) → OnErr r (board_of (openings_in x) (issues_in x) new ≡ x)
cell_not_put (Ok u) new x err = tt
cell_not_put (Err e) new x err = ap (λ (cells : Cells). board_of (openings_in x) (issues_in x) cells) err

pub opening_put : (r : Result (Unit {0}) AllocError) (new : Openings) (x : BoardValue) (n count : ℕ) → OnOk r (new ≡ merged nat_cmp max (openings_in x) ((n, count) ∷ []))
    → OnOk r (board_of new (issues_in x) (cells_in x) ≡ board_join x (opening_board n count))
opening_put r new x n count ok = on_ok_weaker r (λ (e : new ≡ merged nat_cmp max (openings_in x) ((n, count) ∷ [])). same_pair _ _ _ _
    (same_pair _ _ _ _ e (sym (merged_none _ (issues_in x))))
    (sym (merged_none _ (cells_in x)))) ok

pub opening_not_put : (r : Result (Unit {0}) AllocError) (new : Openings) (x : BoardValue) → OnErr r (new ≡ openings_in x) → OnErr r (board_of new (issues_in x) (cells_in x) ≡ x)
opening_not_put (Ok u) new x err = tt
opening_not_put (Err e) new x err = ap (λ (openings : Openings). board_of openings (issues_in x) (cells_in x)) err

one_entry_board : (n : ℕ) (i : Issuing) → board_of [] ((n, issuing_value i) ∷ []) [] ≡ issue_board n (issuing_value i)
one_entry_board n (One issue) = refl
one_entry_board n Clash = refl

pub issue_put : (r : Result (Unit {0}) AllocError) (new : Issues) (x : BoardValue) (n : ℕ) (i : Issuing) → OnOk r (new ≡ merged nat_cmp both_issued (issues_in x) ((n, issuing_value i) ∷ []))
    → OnOk r (board_of (openings_in x) new (cells_in x) ≡ board_join x (issue_board n (issuing_value i)))
issue_put r new x n i ok = on_ok_weaker r (λ (e : new ≡ merged nat_cmp both_issued (issues_in x) ((n, issuing_value i) ∷ [])). same_pair _ _ _ _
    (same_pair _ _ _ _ (sym (merged_none _ (openings_in x))) e)
    (sym (merged_none _ (cells_in x)))
    ∙ ap (board_join x) (one_entry_board n i)) ok

pub issue_not_put : (r : Result (Unit {0}) AllocError) (new : Issues) (x : BoardValue) → OnErr r (new ≡ issues_in x) → OnErr r (board_of (openings_in x) new (cells_in x) ≡ x)
issue_not_put (Ok u) new x err = tt
issue_not_put (Err e) new x err = ap (λ (issues : Issues). board_of (openings_in x) issues (cells_in x)) err

-- ---- what was taken

-- nothing issued is nothing put in
pub nothing_put : (b : BoardValue) (n : ℕ) (x : Flat PlanPair) → x ≡ Unknown → b ≡ board_join b (issue_board n x)
nothing_put b n x e = same_pair _ _ _ _
    (same_pair _ _ _ _ (sym (merged_none _ (openings_in b))) (sym (merged_none _ (issues_in b))))
    (sym (merged_none _ (cells_in b)))
    ∙ ap (λ v. board_join b (issue_board n v)) (sym e)

nothing_told : (b : BoardValue) (n : ℕ) (x : Flat PlanPair) → x ≡ Unknown → TellsBoth (told b) (told b) (told_by_issue n x)
nothing_told b n x e = subst (λ v. TellsBoth (told b) (told b) (told_by_issue n v)) (sym e) (record {
  facts = λ f. sym (or_false (says b f));
  issues = λ m. sym (ap (both_issued (issued b m)) (sym (unknown_at (n == m))) ∙ issued_neutral (issued b m));
})

pub nothing_takes : (b : BoardValue) (n : ℕ) (x : Flat PlanPair) → x ≡ Unknown → TakesIssue b n x b
nothing_takes b n x e = record {
  joined = nothing_put b n x e;
  tells = nothing_told b n x e;
  taken = λ rs qs h g. has_both (told b) (told b) (told_by_issue n x) rs qs (nothing_told b n x e) h g;
}

pub took_issue : (r : Result (Unit {0}) AllocError) (old new : BoardValue) (n : ℕ) (x y : Flat PlanPair) → x ≡ y → OnOk r (TakesBoard old (issue_board n x) new) → OnOk r (TakesIssue old n y new)
took_issue r old new n x y e ok = subst (λ v. OnOk r (TakesIssue old n v new)) e (took_as r old (issue_board n x) new (told (issue_board n x)) (told_by_issue n x) ok (issue_tells n x))

pub took_report : (r : Result (Unit {0}) AllocError) (old delta new : BoardValue) (report : ReportKind PlanPair) → delta ≡ report_board report → OnOk r (TakesBoard old delta new) → OnOk r (TakesReport old report new)
took_report r old delta new report is ok = took_as r old (report_board report) new (told (report_board report)) (told_by_report report) (subst (λ d. OnOk r (TakesBoard old d new)) is ok) (report_tells report)

pub took_all : (r : Result (Unit {0}) AllocError) (old delta new : BoardValue) (reports : List (ReportKind PlanPair)) → delta ≡ board_by reports → HasTaken delta reports → OnOk r (TakesBoard old delta new) → OnOk r (TakesReports old reports new)
took_all r old delta new reports is has ok = subst (λ d. OnOk r (Takes old d (told_by reports) new)) is (took_as r old delta new (told delta) (told_by reports) ok has)

-- ---- the order of what boards tell

or_true : (a b : Bool) → a ≡ (a || b) → b ≡ true → a ≡ true
or_true true b e h = refl
or_true false b e h = e ∙ h

or_same : (a b : Bool) → (b ≡ true → a ≡ true) → (a || b) ≡ a
or_same true b f = refl
or_same false true f = sym (f refl)
or_same false false f = refl

pub covers_all : (x y : BoardValue) → IsBoard x → IsBoard y → board_join x y ≡ x → TellsAll (told x) (told y)
covers_all x y a b e = record {
  facts = λ f. or_true (says x f) (says y f) (sym (ap (λ v. says v f) e) ∙ both.facts f);
  issues = λ n. sym (both.issues n) ∙ ap (λ v. issued v n) e;
}
  where
    both : TellsBoth (told (board_join x y)) (told x) (told y)
    both = tells_both x y a.nested b.nested

pub all_covered : (x y : BoardValue) → IsBoard x → IsBoard y → TellsAll (told x) (told y) → board_join x y ≡ x
all_covered x y a b t = same_board (board_join x y) x (board_laws.closed x y a.nested b.nested) a.nested (record {
  facts = λ f. both.facts f ∙ or_same (says x f) (says y f) (t.facts f);
  issues = λ n. both.issues n ∙ t.issues n;
})
  where
    both : TellsBoth (told (board_join x y)) (told x) (told y)
    both = tells_both x y a.nested b.nested

pub covers_tells : (r : Bool) (x y z w : BoardValue) → x ≡ z → y ≡ w → IsBoard x → IsBoard y → (IsTrue r ↔ (board_join x y ≡ x)) → (IsTrue r ↔ TellsAll (told z) (told w))
covers_tells r x y z w is too a b iff = subst (λ v. IsTrue r ↔ TellsAll (told z) (told v)) too (subst (λ v. IsTrue r ↔ TellsAll (told v) (told y)) is
    (λ t. covers_all x y a b (iff.0 t), λ t. iff.1 (all_covered x y a b t)))

-- one more report of a list
pub next_taken : (new old : BoardValue) (rs : List (ReportKind PlanPair)) (i : ℕ) (r : ReportKind PlanPair) → i < length rs → r ≡ get_or rs i r → HasTaken old (take i rs) → TakesReport old r new → HasTaken new (take (i + 1) rs)
next_taken new old rs i r within is before k = subst (λ l. HasTaken new l) (sym (take_more rs i r within ∙ ap (λ x. take i rs ++ x ∷ []) (sym is))) (takes_one old (report_board r) new r (take i rs) k before)

pub next_taking : (new old : BoardValue) (rs : List (ReportKind PlanPair)) (i : ℕ) (r : ReportKind PlanPair) → i < length rs → r ≡ get_or rs i r → taking old (drop i rs) ≡ board_by rs → TakesReport old r new → taking new (drop (i + 1) rs) ≡ board_by rs
next_taking new old rs i r within is before k =
    ap (λ b. taking b (drop (i + 1) rs)) k.joined
    ∙ sym (ap (taking old) (drop_more rs i r within ∙ ap (λ x. x ∷ drop (i + 1) rs) (sym is)))
    ∙ before
