-- Laws of what lists of reports tell.
use Rattle.std.specs.Prelude.{◌≡◌, ◌≢◌, ℕ, ◌+◌, ◌==◌, suc, zero, Bool, true, false, ◌||◌, cond, List, [], ◌∷◌, ◌++◌, ◌⊎◌, refl}
use Rattle.std.proofs.Common.{sym, ap, subst, ◌∙◌, arith, inl, inr, ⊎_elim}
use Rattle.std.proofs.lemmas.Bool.{true≢false}
use Rattle.std.proofs.lemmas.Bool.Decides.{nat_tests}
use Rattle.std.proofs.lemmas.List.Folds.{list_any-append, list_any_at}
use Rattle.std.specs.List.{list_any, Contains}
use Rattle.squall_join.specs.declared.flat.Flat.{Flat}
use Rattle.squall_join.specs.declared.flat.Flat.TheVariants.{Unknown, One, Clash}
use Rattle.squall_join.specs.Laws.{JoinLaws}
use Rattle.squall_join.specs.Flats.{flat_is}
use Rattle.squall_join.specs.FlatLaws.{flat_laws}
use Rattle.squall_report.specs.declared.report.ReportKind.{ReportKind}
use Rattle.squall_report.specs.declared.report.ReportKind.TheVariants.{Loaded, Done, Opened, Issued}
use Rattle.squall_report.specs.Issues.{PlanPair, is_same_pair}
use Rattle.squall_report.specs.IssueLaws.{same_pairs_are_equal}
use Rattle.squall_report.specs.Facts.{report_says, reports_say}
use Rattle.squall_report.specs.Told.{both_issued, report_issues, reports_issue, IsIssued, told_by, SameTold, TellsBoth, AreSameReports}

-- ---- what is issued

-- each value of a flat is one
pub any_flat : (x : Flat PlanPair) → flat_is (λ _. Unit {0}) x
any_flat Unknown = tt
any_flat (One p) = tt
any_flat Clash = tt

pub issue_laws : JoinLaws (flat_is (λ _. Unit {0})) Unknown both_issued
issue_laws = flat_laws same_pairs_are_equal

pub issued_assoc : (x y z : Flat PlanPair) → both_issued (both_issued x y) z ≡ both_issued x (both_issued y z)
issued_assoc x y z = issue_laws.assoc x y z (any_flat x) (any_flat y) (any_flat z)

pub issued_comm : (x y : Flat PlanPair) → both_issued x y ≡ both_issued y x
issued_comm x y = issue_laws.comm x y (any_flat x) (any_flat y)

pub issued_idem : (x : Flat PlanPair) → both_issued x x ≡ x
issued_idem x = issue_laws.idem x (any_flat x)

pub issued_neutral : (x : Flat PlanPair) → both_issued x Unknown ≡ x
issued_neutral x = issue_laws.neutral x (any_flat x)

-- ---- members of lists

in_head : {X : Type 0} (x : X) (xs : List X) → Contains (x ∷ xs) x
in_head x xs = (0, omega arith, refl)

in_tail : {X : Type 0} (y : X) (xs : List X) (x : X) → Contains xs x → Contains (y ∷ xs) x
in_tail y xs x (k, lt, e) = (suc k, omega (arith, lt), e)

pub in_either : {X : Type 0} (y : X) (xs : List X) (x : X) → Contains (y ∷ xs) x → (x ≡ y) ⊎ Contains xs x
in_either y xs x (zero, lt, e) = inl (sym e)
in_either y xs x (suc k, lt, e) = inr (k, omega (arith, lt), e)

any_member : {X : Type 0} (p : X → Bool) (xs : List X) → list_any p xs ≡ true → (x : X) × Contains xs x × (p x ≡ true)
any_member p [] e = absurd (true≢false (sym e))
any_member p (x ∷ xs) e = elim (p x) as (λ b. p x ≡ b → (b || list_any p xs) ≡ true → (y : _) × Contains (x ∷ xs) y × (p y ≡ true)) [
  | true ↦ λ is _. (x, in_head x xs, is)
  | false ↦ λ is rest. let (y, there, holds) = any_member p xs rest in (y, in_tail x xs y there, holds)
] refl e

member_any : {X : Type 0} (p : X → Bool) (xs : List X) (x : X) → Contains xs x → p x ≡ true → list_any p xs ≡ true
member_any p xs x (k, lt, e) is = list_any_at p xs k x lt (ap p e ∙ is)

same_bool : (a b : Bool) → (a ≡ true → b ≡ true) → (b ≡ true → a ≡ true) → a ≡ b
same_bool true b f g = sym (f refl)
same_bool false true f g = g refl
same_bool false false f g = refl

same_any : {X : Type 0} (p : X → Bool) (xs ys : List X) → ((x : X) → Contains xs x → Contains ys x) → list_any p xs ≡ true → list_any p ys ≡ true
same_any p xs ys into e = let (x, there, holds) = any_member p xs e in member_any p ys x (into x there) holds

-- ---- nothing, one pair, or a clash

abbrev pair_in : PlanPair → ReportKind PlanPair → PlanPair
pair_in d (Loaded number sub part span) = d
pair_in d (Done number sub part) = d
pair_in d (Opened number sub) = d
pair_in d (Issued number issue) = issue

same_issue : (n : ℕ) (p q : PlanPair) → Issued n q ≡ Issued n p → q ≡ p
same_issue n p q e = ap (pair_in p) e

-- a report that issues nothing under the number changes nothing
passed : (r : ReportKind PlanPair) (rs : List (ReportKind PlanPair)) (n : ℕ) (f : Flat PlanPair) → ((p : PlanPair) → Issued n p ≢ r) → IsIssued rs n f → IsIssued (r ∷ rs) n f
passed r rs n Unknown other is = λ p there. ⊎_elim (λ e. other p e) (λ t. is p t) (in_either r rs (Issued n p) there)
passed r rs n (One p) other is = (in_tail r rs (Issued n p) is.0, λ q there. ⊎_elim (λ e. absurd (other q e)) (λ t. is.1 q t) (in_either r rs (Issued n q) there))
passed r rs n Clash other (p, q, a, b, differ) = (p, q, in_tail r rs (Issued n p) a, in_tail r rs (Issued n q) b, differ)

issues_too : (p : PlanPair) (rs : List (ReportKind PlanPair)) (n : ℕ) (f : Flat PlanPair) → IsIssued rs n f → IsIssued (Issued n p ∷ rs) n (both_issued (One p) f)
issues_too p rs n Unknown is = (in_head (Issued n p) rs, λ q there. ⊎_elim (λ e. same_issue n p q e) (λ t. absurd (is q t)) (in_either (Issued n p) rs (Issued n q) there))
issues_too p rs n (One o) is = elim (is_same_pair p o) as (λ b. is_same_pair p o ≡ b → IsIssued (Issued n p ∷ rs) n (cond b (One p) Clash)) [
  | true ↦ λ e. let s : p ≡ o = same_pairs_are_equal.same p o tt tt e in
      (in_head (Issued n p) rs, λ q there. ⊎_elim (λ h. same_issue n p q h) (λ t. is.1 q t ∙ sym s) (in_either (Issued n p) rs (Issued n q) there))
  | false ↦ λ e. (p, o, in_head (Issued n p) rs, in_tail (Issued n p) rs (Issued n o) is.0, λ s. true≢false (sym (subst (λ z. is_same_pair p z ≡ true) s (same_pairs_are_equal.itself p tt)) ∙ e))
] refl
issues_too p rs n Clash (q, o, a, b, differ) = (q, o, in_tail (Issued n p) rs (Issued n q) a, in_tail (Issued n p) rs (Issued n o) b, differ)

abbrev is_issue : ReportKind PlanPair → ℕ
is_issue (Loaded number sub part span) = 0
is_issue (Done number sub part) = 0
is_issue (Opened number sub) = 0
is_issue (Issued number issue) = number + 1

no_issue : (r : ReportKind PlanPair) (n : ℕ) (p : PlanPair) → (n + 1 ≡ is_issue r → ⊥) → Issued n p ≢ r
no_issue r n p other e = other (ap is_issue e)

pub what_is_issued : (rs : List (ReportKind PlanPair)) (n : ℕ) → IsIssued rs n (reports_issue rs n)
what_is_issued [] n = λ p (k, lt, e). omega (arith, lt)
what_is_issued (Loaded number sub part span ∷ rs) n = passed _ rs n _ (λ p. no_issue (Loaded number sub part span) n p (λ e. omega (arith, e))) (what_is_issued rs n)
what_is_issued (Done number sub part ∷ rs) n = passed _ rs n _ (λ p. no_issue (Done number sub part) n p (λ e. omega (arith, e))) (what_is_issued rs n)
what_is_issued (Opened number sub ∷ rs) n = passed _ rs n _ (λ p. no_issue (Opened number sub) n p (λ e. omega (arith, e))) (what_is_issued rs n)
what_is_issued (Issued number issue ∷ rs) n = elim (number == n) as (λ b. (number == n) ≡ b → IsIssued (Issued number issue ∷ rs) n (both_issued (cond b (One issue) Unknown) (reports_issue rs n))) [
  | true ↦ λ e. let s : number ≡ n = grind (arith, nat_tests) in subst (λ m. IsIssued (Issued m issue ∷ rs) n (both_issued (One issue) (reports_issue rs n))) (sym s) (issues_too issue rs n (reports_issue rs n) (what_is_issued rs n))
  | false ↦ λ e. let s : number ≢ n = (λ (h : number ≡ n). let g : ⊥ = grind (arith, nat_tests) in g) in passed _ rs n _ (λ p. no_issue (Issued number issue) n p (λ h. s (omega (arith, h)))) (what_is_issued rs n)
] refl

-- ---- one list after another

or_assoc : (a b c : Bool) → ((a || b) || c) ≡ (a || (b || c))
or_assoc true b c = refl
or_assoc false b c = refl

issues_append : (rs qs : List (ReportKind PlanPair)) (n : ℕ) → reports_issue (rs ++ qs) n ≡ both_issued (reports_issue rs n) (reports_issue qs n)
issues_append [] qs n = refl
issues_append (r ∷ rs) qs n = ap (both_issued (report_issues r n)) (issues_append rs qs n) ∙ sym (issued_assoc (report_issues r n) (reports_issue rs n) (reports_issue qs n))

pub told_append : (rs qs : List (ReportKind PlanPair)) → TellsBoth (told_by (rs ++ qs)) (told_by rs) (told_by qs)
told_append rs qs = record {
  facts = λ f. list_any-append (λ r. report_says r f) rs qs;
  issues = issues_append rs qs;
}

-- ---- lists of the same reports

same_issues : (rs qs : List (ReportKind PlanPair)) (n : ℕ) (x y : Flat PlanPair) → AreSameReports rs qs → IsIssued rs n x → IsIssued qs n y → x ≡ y
same_issues rs qs n Unknown Unknown s a b = refl
same_issues rs qs n Unknown (One p) s a b = absurd (a p (s.1 (Issued n p) b.0))
same_issues rs qs n Unknown Clash s a (p, q, c, d, differ) = absurd (a p (s.1 (Issued n p) c))
same_issues rs qs n (One p) Unknown s a b = absurd (b p (s.0 (Issued n p) a.0))
same_issues rs qs n (One p) (One q) s a b = ap One (b.1 p (s.0 (Issued n p) a.0))
same_issues rs qs n (One p) Clash s a (q, o, c, d, differ) = absurd (differ (a.1 q (s.1 (Issued n q) c) ∙ sym (a.1 o (s.1 (Issued n o) d))))
same_issues rs qs n Clash Unknown s (p, q, c, d, differ) b = absurd (b p (s.0 (Issued n p) c))
same_issues rs qs n Clash (One p) s (q, o, c, d, differ) b = absurd (differ (b.1 q (s.0 (Issued n q) c) ∙ sym (b.1 o (s.0 (Issued n o) d))))
same_issues rs qs n Clash Clash s a b = refl

pub told_same : (rs qs : List (ReportKind PlanPair)) → AreSameReports rs qs → SameTold (told_by rs) (told_by qs)
told_same rs qs s = record {
  facts = λ f. same_bool (reports_say rs f) (reports_say qs f) (same_any (λ r. report_says r f) rs qs s.0) (same_any (λ r. report_says r f) qs rs s.1);
  issues = λ n. same_issues rs qs n (reports_issue rs n) (reports_issue qs n) s (what_is_issued rs n) (what_is_issued qs n);
}
