-- Laws of queries.
use Rattle.std.specs.Prelude.{◌≡◌, ℕ, nat_lt, Bool, true, false, ◌||◌, List, [], ◌∷◌, ◌++◌, ◌↔◌, refl}
use Rattle.std.proofs.Common.{sym, ap, ◌∙◌, arith}
use Rattle.std.proofs.Math.Bool.{or_assoc, or_comm, or_self, or-false}
use Rattle.squall_join.specs.Laws.{JoinLaws, Covers}
use Rattle.squall_report.specs.declared.report.ReportKind.{ReportKind}
use Rattle.squall_report.specs.declared.report.ReportKind.TheVariants.{Loaded, Done, Opened, Issued}
use Rattle.squall_report.specs.Issues.{PlanPair}
use Rattle.squall_report.specs.Facts.{Fact, LoadedKey, DonePart, OpenedSub, report_says, reports_say}
use Rattle.squall_report.specs.Told.{report_issues, told_by_report, told_by, SameTold, TellsBoth, TellsAll}
use Rattle.squall_report.specs.ToldLaws.{issued_assoc, issued_comm, issued_idem, issued_neutral, told_append}
use Rattle.squall_report.specs.OpeningsLaws.{none_below, report_counts, below_max, openings_count, one_count, opened_append}
use Rattle.squall_report.specs.Queries.{Queries, SameQueries, no_queries, joined_queries, queries_by, queries_by_report, queries_say, told_by_queries}

-- queries with the same answers are equal
pub same_queries : (a b : Queries) → SameQueries a b → a ≡ b
same_queries a b s = λ i. record { loaded = λ c k. s.loaded c k i; done = λ c. s.done c i; opened = λ n. s.opened n i; issued = λ n. s.issued n i }

-- queries join in any grouping, order and number to the same queries
pub queries_laws : JoinLaws (λ _. Unit {0}) no_queries joined_queries
queries_laws = record {
  bottom_is = tt;
  closed = λ a b _ _. tt;
  assoc = λ a b d _ _ _. same_queries _ _ (record {
    loaded = λ c k. or_assoc (a.loaded c k) (b.loaded c k) (d.loaded c k);
    done = λ c. or_assoc (a.done c) (b.done c) (d.done c);
    opened = λ n. omega arith;
    issued = λ n. issued_assoc (a.issued n) (b.issued n) (d.issued n);
  });
  comm = λ a b _ _. same_queries _ _ (record {
    loaded = λ c k. or_comm (a.loaded c k) (b.loaded c k);
    done = λ c. or_comm (a.done c) (b.done c);
    opened = λ n. omega arith;
    issued = λ n. issued_comm (a.issued n) (b.issued n);
  });
  idem = λ a _. same_queries _ _ (record {
    loaded = λ c k. or_self (a.loaded c k);
    done = λ c. or_self (a.done c);
    opened = λ n. omega arith;
    issued = λ n. issued_idem (a.issued n);
  });
  neutral = λ a _. same_queries _ _ (record {
    loaded = λ c k. or-false (a.loaded c k);
    done = λ c. or-false (a.done c);
    opened = λ n. omega arith;
    issued = λ n. issued_neutral (a.issued n);
  });
}

-- ---- queries and what they tell

-- the same queries say the same facts
same_facts : (a b : Queries) → SameQueries a b → (f : Fact) → queries_say a f ≡ queries_say b f
same_facts a b s (LoadedKey c k) = s.loaded c k
same_facts a b s (DonePart c) = s.done c
same_facts a b s (OpenedSub n t) = ap (nat_lt t) (s.opened n)

-- queries are the same exactly if they tell the same
pub told_by_same : (a b : Queries) → SameQueries a b ↔ SameTold (told_by_queries a) (told_by_queries b)
told_by_same a b = (
  λ s. record { facts = same_facts a b s; issues = s.issued },
  λ t. record {
    loaded = λ c k. t.facts (LoadedKey c k);
    done = λ c. t.facts (DonePart c);
    opened = λ n. one_count (a.opened n) (b.opened n) (λ s. t.facts (OpenedSub n s));
    issued = t.issues;
  },
)

joined_say : (a b : Queries) (f : Fact) → queries_say (joined_queries a b) f ≡ (queries_say a f || queries_say b f)
joined_say a b (LoadedKey c k) = refl
joined_say a b (DonePart c) = refl
joined_say a b (OpenedSub n s) = below_max s (a.opened n) (b.opened n)

-- queries tell what two others tell, and nothing else, exactly if they are the joined ones
pub told_by_joined : (c a b : Queries) → SameQueries c (joined_queries a b) ↔ TellsBoth (told_by_queries c) (told_by_queries a) (told_by_queries b)
told_by_joined c a b = (
  λ s. record { facts = λ f. same_facts c (joined_queries a b) s f ∙ joined_say a b f; issues = s.issued },
  λ t. (told_by_same c (joined_queries a b)).1 (record { facts = λ f. t.facts f ∙ sym (joined_say a b f); issues = t.issues }),
)

or_covers : (a b : Bool) → (b ≡ true → a ≡ true) → (a || b) ≡ a
or_covers true b into = refl
or_covers false true into = sym (into refl)
or_covers false false into = refl

covered : (a b : Bool) → (a || b) ≡ a → b ≡ true → a ≡ true
covered true b e is = refl
covered false b e is = sym e ∙ is

-- a join of queries is the first of them exactly if the first tells all that the second tells
pub told_already : (a b : Queries) → Covers joined_queries a b ↔ TellsAll (told_by_queries a) (told_by_queries b)
told_already a b = (
  λ e. record {
    facts = λ f. covered (queries_say a f) (queries_say b f) (sym (joined_say a b f) ∙ ap (λ t. queries_say t f) e);
    issues = λ n. ap (λ t. t.issued n) e;
  },
  λ all. same_queries (joined_queries a b) a ((told_by_same (joined_queries a b) a).1 (record {
    facts = λ f. joined_say a b f ∙ or_covers (queries_say a f) (queries_say b f) (all.facts f);
    issues = all.issues;
  })),
)

-- ---- the queries of lists

says_by_queries : (rs : List (ReportKind PlanPair)) (f : Fact) → reports_say rs f ≡ queries_say (queries_by rs) f
says_by_queries rs (LoadedKey c k) = refl
says_by_queries rs (DonePart c) = refl
says_by_queries rs (OpenedSub n s) = openings_count rs n s

-- a list tells what its queries tell
pub told_by_its_queries : (rs : List (ReportKind PlanPair)) → SameTold (told_by rs) (told_by_queries (queries_by rs))
told_by_its_queries rs = record { facts = says_by_queries rs; issues = λ n. refl }

-- lists of reports have the same queries exactly if they tell the same
pub same_told_lists : (rs qs : List (ReportKind PlanPair)) → SameQueries (queries_by rs) (queries_by qs) ↔ SameTold (told_by rs) (told_by qs)
same_told_lists rs qs = (
  λ s. record { facts = λ f. says_by_queries rs f ∙ same_facts (queries_by rs) (queries_by qs) s f ∙ sym (says_by_queries qs f); issues = s.issued },
  λ t. (told_by_same (queries_by rs) (queries_by qs)).1 (record { facts = λ f. sym (says_by_queries rs f) ∙ t.facts f ∙ says_by_queries qs f; issues = t.issues }),
)

-- a list after another has the joined queries of both
pub queries_append : (rs qs : List (ReportKind PlanPair)) → SameQueries (queries_by (rs ++ qs)) (joined_queries (queries_by rs) (queries_by qs))
queries_append rs qs = record {
  loaded = λ c k. (told_append rs qs).facts (LoadedKey c k);
  done = λ c. (told_append rs qs).facts (DonePart c);
  opened = opened_append rs qs;
  issued = (told_append rs qs).issues;
}

-- a report tells what its queries tell
report_says_by_queries : (r : ReportKind PlanPair) (f : Fact) → report_says r f ≡ queries_say (queries_by_report r) f
report_says_by_queries (Loaded number sub part span) (LoadedKey c k) = refl
report_says_by_queries (Loaded number sub part span) (DonePart c) = refl
report_says_by_queries (Loaded number sub part span) (OpenedSub n s) = none_below s
report_says_by_queries (Done number sub part) (LoadedKey c k) = refl
report_says_by_queries (Done number sub part) (DonePart c) = refl
report_says_by_queries (Done number sub part) (OpenedSub n s) = none_below s
report_says_by_queries (Opened number sub) (LoadedKey c k) = refl
report_says_by_queries (Opened number sub) (DonePart c) = refl
report_says_by_queries (Opened number sub) (OpenedSub n s) = report_counts (Opened number sub) n s
report_says_by_queries (Issued number issue) (LoadedKey c k) = refl
report_says_by_queries (Issued number issue) (DonePart c) = refl
report_says_by_queries (Issued number issue) (OpenedSub n s) = none_below s

report_issues_by_queries : (r : ReportKind PlanPair) (n : ℕ) → report_issues r n ≡ (queries_by_report r).issued n
report_issues_by_queries (Loaded number sub part span) n = refl
report_issues_by_queries (Done number sub part) n = refl
report_issues_by_queries (Opened number sub) n = refl
report_issues_by_queries (Issued number issue) n = refl

pub report_told_by_queries : (r : ReportKind PlanPair) → SameTold (told_by_report r) (told_by_queries (queries_by_report r))
report_told_by_queries r = record { facts = report_says_by_queries r; issues = report_issues_by_queries r }

-- one report has its queries
pub report_queries : (r : ReportKind PlanPair) → SameQueries (queries_by (r ∷ [])) (queries_by_report r)
report_queries (Loaded number sub part span) = record { loaded = λ c k. or-false _; done = λ c. or-false _; opened = λ n. omega arith; issued = λ n. refl }
report_queries (Done number sub part) = record { loaded = λ c k. or-false _; done = λ c. or-false _; opened = λ n. omega arith; issued = λ n. refl }
report_queries (Opened number sub) = record { loaded = λ c k. or-false _; done = λ c. or-false _; opened = λ n. omega arith; issued = λ n. refl }
report_queries (Issued number issue) = record { loaded = λ c k. or-false _; done = λ c. or-false _; opened = λ n. omega arith; issued = λ n. issued_neutral _ }
