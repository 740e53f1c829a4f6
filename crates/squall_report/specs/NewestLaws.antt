-- Laws of the newest course.
use Rattle.std.specs.Prelude.{◌≡◌, ◌≢◌, ℕ, ◌<◌, ◌≤◌, nat_lt, true, false, cond, List, [], ◌∷◌, Option, None, Some, refl}
use Rattle.std.proofs.Common.{sym, ap, subst, ◌∙◌, arith, inl, inr, ⊎_elim}
use Rattle.std.proofs.lemmas.Bool.{cases_lt}
use Rattle.std.proofs.lemmas.Bool.Decides.{nat_tests}
use Rattle.std.specs.List.{Contains}
use Rattle.squall_join.specs.declared.flat.Flat.{Flat}
use Rattle.squall_join.specs.declared.flat.Flat.TheVariants.{Unknown, One, Clash}
use Rattle.squall_report.specs.declared.report.ReportKind.{ReportKind}
use Rattle.squall_report.specs.declared.report.ReportKind.TheVariants.{Loaded, Done, Opened, Issued}
use Rattle.squall_report.specs.Issues.{PlanPair}
use Rattle.squall_report.specs.Told.{reports_issue, IsIssued}
use Rattle.squall_report.specs.ToldLaws.{what_is_issued, in_either}
use Rattle.squall_report.specs.Newest.{IsNewest, one_above, later, course_under, latest_under, newest_by}

-- ---- there is one

abbrev pair_in : PlanPair → Flat PlanPair → PlanPair
pair_in d Unknown = d
pair_in d (One p) = p
pair_in d Clash = d

same_number : (f : ℕ → Flat PlanPair) (x y : ℕ × PlanPair) → f x.0 ≡ One x.1 → f y.0 ≡ One y.1
    → ((n : ℕ) → x.0 < n → (p : PlanPair) → f n ≢ One p) → ((n : ℕ) → y.0 < n → (p : PlanPair) → f n ≢ One p) → x.0 ≡ y.0
same_number f x y a b last_x last_y = elim (cases_lt x.0 y.0) [
  | inl lt ↦ absurd (last_x y.0 lt y.1 b)
  | inr ge ↦ elim (cases_lt y.0 x.0) [ inl lt ↦ absurd (last_y x.0 lt x.1 a) | inr le ↦ omega arith ]
]

-- what is issued has one newest course above a number
pub one_newest : (f : ℕ → Flat PlanPair) (low : ℕ) (x y : Option (ℕ × PlanPair)) → IsNewest f low x → IsNewest f low y → x ≡ y
one_newest f low None None a b = refl
one_newest f low None (Some y) a (above, is, last) = absurd (a y.0 above y.1 is)
one_newest f low (Some x) None (above, is, last) b = absurd (b x.0 above x.1 is)
one_newest f low (Some x) (Some y) (above, is, last) (above_y, is_y, last_y) =
    let n : x.0 ≡ y.0 = same_number f x y is is_y last last_y in
    let p : x.1 ≡ y.1 = ap (pair_in x.1) (sym is ∙ ap f n ∙ is_y) in
    λ i. Some (n i, p i)

-- what issues the same has the same newest course
pub newest_same : (f g : ℕ → Flat PlanPair) (low : ℕ) (x : Option (ℕ × PlanPair)) → ((n : ℕ) → f n ≡ g n) → IsNewest f low x → IsNewest g low x
newest_same f g low None same none = λ n above p e. none n above p (same n ∙ e)
newest_same f g low (Some x) same (above, is, last) = (above, sym (same x.0) ∙ is, λ n gt p e. last n gt p (same n ∙ e))

-- ---- the one of a list

-- what is found lies above the first number, and is issued
abbrev IsFound : (ℕ → Flat PlanPair) → ℕ → Option (ℕ × PlanPair) → Type 0
IsFound f low None = Unit {0}
IsFound f low (Some e) = (low < e.0) × (f e.0 ≡ One e.1)

-- what is found has that number or a greater one
abbrev Reaches : ℕ → Option (ℕ × PlanPair) → Type 0
Reaches n None = ⊥
Reaches n (Some e) = n ≤ e.0

found_above : (f : ℕ → Flat PlanPair) (low n : ℕ) (x : Flat PlanPair) → f n ≡ x → IsFound f low (one_above low (n, x))
found_above f low n Unknown is = tt
found_above f low n (One p) is = elim (nat_lt low n) as (λ b. nat_lt low n ≡ b → IsFound f low (cond b (Some (n, p)) None)) [
  | true ↦ λ e. let lt : low < n = grind (arith, nat_tests) in (lt, is)
  | false ↦ λ e. tt
] refl
found_above f low n Clash is = tt

found_later : (f : ℕ → Flat PlanPair) (low : ℕ) (x y : Option (ℕ × PlanPair)) → IsFound f low x → IsFound f low y → IsFound f low (later x y)
found_later f low None y a b = b
found_later f low (Some x) None a b = a
found_later f low (Some x) (Some y) a b = elim (nat_lt x.0 y.0) as (λ t. IsFound f low (cond t (Some y) (Some x))) [ true ↦ b | false ↦ a ]

found_under : (rs : List (ReportKind PlanPair)) (low : ℕ) (q : ReportKind PlanPair) → IsFound (reports_issue rs) low (course_under rs low q)
found_under rs low (Loaded number sub part span) = tt
found_under rs low (Done number sub part) = tt
found_under rs low (Opened number sub) = tt
found_under rs low (Issued number issue) = found_above (reports_issue rs) low number (reports_issue rs number) refl

found_latest : (rs : List (ReportKind PlanPair)) (low : ℕ) (qs : List (ReportKind PlanPair)) → IsFound (reports_issue rs) low (latest_under rs low qs)
found_latest rs low [] = tt
found_latest rs low (q ∷ qs) = found_later (reports_issue rs) low (course_under rs low q) (latest_under rs low qs) (found_under rs low q) (found_latest rs low qs)

reaches_above : (low n : ℕ) (x : Flat PlanPair) (p : PlanPair) → low < n → x ≡ One p → Reaches n (one_above low (n, x))
reaches_above low n x p above is = subst (λ z. Reaches n (one_above low (n, z))) (sym is) (elim (nat_lt low n) as (λ b. nat_lt low n ≡ b → Reaches n (cond b (Some (n, p)) None)) [
  | true ↦ λ e. omega arith
  | false ↦ λ e. let bad : ⊥ = grind (arith, nat_tests) in bad
] refl)

reaches_first : (n : ℕ) (x y : Option (ℕ × PlanPair)) → Reaches n x → Reaches n (later x y)
reaches_first n None y a = absurd a
reaches_first n (Some x) None a = a
reaches_first n (Some x) (Some y) a = elim (nat_lt x.0 y.0) as (λ t. nat_lt x.0 y.0 ≡ t → Reaches n (cond t (Some y) (Some x))) [
  | true ↦ λ e. let lt : x.0 < y.0 = grind (arith, nat_tests) in omega (arith, a, lt)
  | false ↦ λ e. a
] refl

reaches_second : (n : ℕ) (x y : Option (ℕ × PlanPair)) → Reaches n y → Reaches n (later x y)
reaches_second n None y b = b
reaches_second n (Some x) None b = absurd b
reaches_second n (Some x) (Some y) b = elim (nat_lt x.0 y.0) as (λ t. nat_lt x.0 y.0 ≡ t → Reaches n (cond t (Some y) (Some x))) [
  | true ↦ λ e. b
  | false ↦ λ e. let le : y.0 ≤ x.0 = grind (arith, nat_tests) in omega (arith, b, le)
] refl

-- the latest reaches each number under which one pair is issued
reaches_each : (rs : List (ReportKind PlanPair)) (low n : ℕ) (p q : PlanPair) (qs : List (ReportKind PlanPair)) → low < n → reports_issue rs n ≡ One p → Contains qs (Issued n q) → Reaches n (latest_under rs low qs)
reaches_each rs low n p q [] above is (k, lt, e) = omega (arith, lt)
reaches_each rs low n p q (r ∷ qs) above is there = ⊎_elim
    (λ e. reaches_first n (course_under rs low r) (latest_under rs low qs) (subst (λ z. Reaches n (course_under rs low z)) e (reaches_above low n (reports_issue rs n) p above is)))
    (λ t. reaches_second n (course_under rs low r) (latest_under rs low qs) (reaches_each rs low n p q qs above is t))
    (in_either r qs (Issued n q) there)

-- one pair that is issued is in the list
one_is_there : (rs : List (ReportKind PlanPair)) (n : ℕ) (p : PlanPair) → reports_issue rs n ≡ One p → Contains rs (Issued n p)
one_is_there rs n p is = let h : IsIssued rs n (One p) = subst (IsIssued rs n) is (what_is_issued rs n) in h.0

newest_from : (rs : List (ReportKind PlanPair)) (low : ℕ) (x : Option (ℕ × PlanPair)) → IsFound (reports_issue rs) low x
    → ((n : ℕ) (p : PlanPair) → low < n → reports_issue rs n ≡ One p → Reaches n x) → IsNewest (reports_issue rs) low x
newest_from rs low None found reaches = λ n above p is. reaches n p above is
newest_from rs low (Some x) (above, is) reaches = (above, is, λ n gt p e. omega (arith, gt, reaches n p (omega (arith, above, gt)) e))

-- the newest course of a list of reports is the newest of what the list issues
pub newest_of_reports : (rs : List (ReportKind PlanPair)) (low : ℕ) → IsNewest (reports_issue rs) low (newest_by rs low)
newest_of_reports rs low = newest_from rs low (newest_by rs low) (found_latest rs low rs) (λ n p above is. reaches_each rs low n p p rs above is (one_is_there rs n p is))
