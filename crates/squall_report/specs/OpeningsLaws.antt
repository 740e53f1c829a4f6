-- Laws of how many sub-plans reports open.
use Rattle.std.specs.Prelude.{◌≡◌, ℕ, ◌+◌, ◌==◌, max, nat_lt, nat_le, Bool, true, false, ◌||◌, ◌&&◌, cond, List, [], ◌∷◌, ◌++◌}
use Rattle.std.proofs.Common.{sym, ap, ◌∙◌, arith}
use Rattle.std.proofs.lemmas.Bool.Decides.{nat_tests}
use Rattle.squall_report.specs.declared.report.ReportKind.{ReportKind}
use Rattle.squall_report.specs.declared.report.ReportKind.TheVariants.{Loaded, Done, Opened, Issued}
use Rattle.squall_report.specs.Issues.{PlanPair}
use Rattle.squall_report.specs.Facts.{OpenedSub, report_says, reports_say}
use Rattle.squall_report.specs.Openings.{opened_by_report, opened_by}

-- a number is below the greater of two exactly if it is below one of them
pub below_max : (s a b : ℕ) → nat_lt s (max a b) ≡ (nat_lt s a || nat_lt s b)
below_max s a b = grind (arith, nat_tests)

-- no number is below 0
pub none_below : (s : ℕ) → false ≡ nat_lt s 0
none_below s = grind (arith, nat_tests)

below_next : (s t : ℕ) → nat_le s t ≡ nat_lt s (t + 1)
below_next s t = grind (arith, nat_tests)

opening_counts : (b : Bool) (s t : ℕ) → (b && nat_le s t) ≡ nat_lt s (cond b (t + 1) 0)
opening_counts true s t = below_next s t
opening_counts false s t = none_below s

-- a report says those sub-plans opened that lie below its count
pub report_counts : (r : ReportKind PlanPair) (n s : ℕ) → report_says r (OpenedSub n s) ≡ nat_lt s (opened_by_report r n)
report_counts (Loaded number sub part span) n s = none_below s
report_counts (Done number sub part) n s = none_below s
report_counts (Opened number sub) n s = opening_counts (number == n) s sub
report_counts (Issued number issue) n s = none_below s

-- a list of reports says those sub-plans opened that lie below its count
pub openings_count : (rs : List (ReportKind PlanPair)) (n s : ℕ) → reports_say rs (OpenedSub n s) ≡ nat_lt s (opened_by rs n)
openings_count [] n s = none_below s
openings_count (r ∷ rs) n s =
    ap (λ x. x || reports_say rs (OpenedSub n s)) (report_counts r n s)
    ∙ ap (λ x. nat_lt s (opened_by_report r n) || x) (openings_count rs n s)
    ∙ sym (below_max s (opened_by_report r n) (opened_by rs n))

-- counts with the same numbers below them are equal
pub one_count : (a b : ℕ) → ((s : ℕ) → nat_lt s a ≡ nat_lt s b) → a ≡ b
one_count a b same =
    let ab : nat_lt a a ≡ nat_lt a b = same a in
    let ba : nat_lt b a ≡ nat_lt b b = same b in
    grind (arith, nat_tests)

-- the count of a list after another is the greater of both
pub opened_append : (rs qs : List (ReportKind PlanPair)) (n : ℕ) → opened_by (rs ++ qs) n ≡ max (opened_by rs n) (opened_by qs n)
opened_append [] qs n = omega arith
opened_append (r ∷ rs) qs n = let h : opened_by (rs ++ qs) n ≡ max (opened_by rs n) (opened_by qs n) = opened_append rs qs n in ap (max (opened_by_report r n)) h ∙ assoc (opened_by_report r n) (opened_by rs n) (opened_by qs n)
  where
    assoc : (a b c : ℕ) → max a (max b c) ≡ max (max a b) c
    assoc a b c = omega arith
