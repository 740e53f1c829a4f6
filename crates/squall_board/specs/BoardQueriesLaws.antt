-- Laws of the queries of boards.
use Rattle.std.specs.Prelude.{◌≡◌, ℕ, ◌||◌, List, ◌↔◌, refl}
use Rattle.std.proofs.Common.{sym, ap, ◌∙◌}
use Rattle.squall_report.specs.declared.report.ReportKind.{ReportKind}
use Rattle.squall_report.specs.Issues.{PlanPair}
use Rattle.squall_report.specs.Facts.{Fact, LoadedKey, DonePart, OpenedSub}
use Rattle.squall_report.specs.Told.{Told, both_issued, told_by_report, told_by, SameTold, TellsBoth}
use Rattle.squall_report.specs.Openings.{opened_by}
use Rattle.squall_report.specs.Newest.{newest_by}
use Rattle.squall_report.specs.NewestLaws.{one_newest, newest_same, newest_of_reports}
use Rattle.squall_report.specs.Queries.{Queries, SameQueries, joined_queries, queries_by, queries_by_report, queries_say, told_by_queries}
use Rattle.squall_report.specs.QueriesLaws.{told_by_same, told_by_joined, told_by_its_queries, report_told_by_queries}
use Rattle.squall_board.specs.Boards.{BoardValue, opened_count, issued, says, told, IsBoard, HasTaken}
use Rattle.squall_board.specs.BoardLaws.{same_board, opened_found}
use Rattle.squall_board.specs.Newest.{newest_of}
use Rattle.squall_board.specs.NewestLaws.{newest_is_greatest}
use Rattle.squall_board.specs.BoardQueries.{queries_of}

board_says_by_queries : (b : BoardValue) (f : Fact) → says b f ≡ queries_say (queries_of b) f
board_says_by_queries b (LoadedKey c k) = refl
board_says_by_queries b (DonePart c) = refl
board_says_by_queries b (OpenedSub n s) = opened_found b n s

-- a board tells what its queries tell
pub board_told_by_queries : (b : BoardValue) → SameTold (told b) (told_by_queries (queries_of b))
board_told_by_queries b = record { facts = board_says_by_queries b; issues = λ n. refl }

-- a board has taken a list if it has the list's queries
pub taken_queries : (b : BoardValue) (rs : List (ReportKind PlanPair)) → HasTaken b rs ↔ SameQueries (queries_of b) (queries_by rs)
taken_queries b rs = (
  λ taken. (told_by_same (queries_of b) (queries_by rs)).1 (record {
    facts = λ f. sym (board_says_by_queries b f) ∙ taken.facts f ∙ (told_by_its_queries rs).facts f;
    issues = taken.issues;
  }),
  λ same. let t : SameTold (told_by_queries (queries_of b)) (told_by_queries (queries_by rs)) = (told_by_same (queries_of b) (queries_by rs)).0 same in record {
    facts = λ f. board_says_by_queries b f ∙ t.facts f ∙ sym ((told_by_its_queries rs).facts f);
    issues = same.issued;
  },
)

-- what a board has taken decides its counts and its newest course
pub taken_openings : (b : BoardValue) (rs : List (ReportKind PlanPair)) (n : ℕ) → HasTaken b rs → opened_count b n ≡ opened_by rs n
taken_openings b rs n taken = ((taken_queries b rs).0 taken).opened n

pub taken_newest : (b : BoardValue) (rs : List (ReportKind PlanPair)) (low : ℕ) → IsBoard b → HasTaken b rs → newest_of b low ≡ newest_by rs low
taken_newest b rs low is taken = one_newest (issued b) low (newest_of b low) (newest_by rs low) (newest_is_greatest b low is) (newest_same _ (issued b) low (newest_by rs low) (λ n. sym (taken.issues n)) (newest_of_reports rs low))

-- boards with the same queries tell the same
same_queries_same_told : (x y : BoardValue) → SameQueries (queries_of x) (queries_of y) → SameTold (told x) (told y)
same_queries_same_told x y same = let t : SameTold (told_by_queries (queries_of x)) (told_by_queries (queries_of y)) = (told_by_same (queries_of x) (queries_of y)).0 same in record {
  facts = λ f. board_says_by_queries x f ∙ t.facts f ∙ sym (board_says_by_queries y f);
  issues = same.issued;
}

-- boards with the same queries are equal
pub one_board_of_queries : (x y : BoardValue) → IsBoard x → IsBoard y → SameQueries (queries_of x) (queries_of y) → x ≡ y
one_board_of_queries x y a b same = same_board x y a.nested b.nested (same_queries_same_told x y same)

-- a board that takes what is told has the joined queries of what it told before and of what it takes
pub taken_join : (z x : BoardValue) (t : Told) (added : Queries) → SameTold t (told_by_queries added) → TellsBoth (told z) (told x) t ↔ SameQueries (queries_of z) (joined_queries (queries_of x) added)
taken_join z x t added is = (
  λ both. (told_by_joined (queries_of z) (queries_of x) added).1 (record {
    facts = λ f. sym (board_says_by_queries z f) ∙ both.facts f ∙ (λ i. board_says_by_queries x f i || is.facts f i);
    issues = λ n. both.issues n ∙ ap (both_issued (issued x n)) (is.issues n);
  }),
  λ same. let j : TellsBoth (told_by_queries (queries_of z)) (told_by_queries (queries_of x)) (told_by_queries added) = (told_by_joined (queries_of z) (queries_of x) added).0 same in record {
    facts = λ f. board_says_by_queries z f ∙ j.facts f ∙ (λ i. sym (board_says_by_queries x f) i || sym (is.facts f) i);
    issues = λ n. same.issued n ∙ ap (both_issued (issued x n)) (sym (is.issues n));
  },
)

-- a board tells what two others tell, and nothing else, if it has their joined queries
pub merged_queries : (z x y : BoardValue) → TellsBoth (told z) (told x) (told y) ↔ SameQueries (queries_of z) (joined_queries (queries_of x) (queries_of y))
merged_queries z x y = taken_join z x (told y) (queries_of y) (board_told_by_queries y)

-- a board that has taken a report has the joined queries of what it told before and of the report
pub report_join : (z x : BoardValue) (r : ReportKind PlanPair) → TellsBoth (told z) (told x) (told_by_report r) ↔ SameQueries (queries_of z) (joined_queries (queries_of x) (queries_by_report r))
report_join z x r = taken_join z x (told_by_report r) (queries_by_report r) (report_told_by_queries r)

-- the same for a list of reports
pub reports_join : (z x : BoardValue) (rs : List (ReportKind PlanPair)) → TellsBoth (told z) (told x) (told_by rs) ↔ SameQueries (queries_of z) (joined_queries (queries_of x) (queries_by rs))
reports_join z x rs = taken_join z x (told_by rs) (queries_by rs) (told_by_its_queries rs)
