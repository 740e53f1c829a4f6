-- What is told, as the answers to four queries (this project): loaded? done? how many opened? what issued? A list of reports, a
-- board, and what a node knows or a message carries answer them all, so they can be compared and joined in one form.
use Rattle.std.specs.Prelude.{◌≡◌, ℕ, ◌+◌, ◌==◌, max, nat_lt, Bool, false, ◌||◌, ◌&&◌, List, if◌then◌else◌}
use Rattle.squall_span.specs.Spans.{span_has}
use Rattle.squall_join.specs.declared.flat.Flat.{Flat}
use Rattle.squall_join.specs.declared.flat.Flat.TheVariants.{Unknown, One}
use Rattle.squall_report.specs.declared.report.ReportKind.{ReportKind}
use Rattle.squall_report.specs.declared.report.ReportKind.TheVariants.{Loaded, Done, Opened, Issued}
use Rattle.squall_report.specs.Issues.{PlanPair}
use Rattle.squall_report.specs.Cells.{CellPlace, place_at, is_same_cell}
use Rattle.squall_report.specs.Facts.{Fact, LoadedKey, DonePart, OpenedSub, reports_say}
use Rattle.squall_report.specs.Told.{Told, both_issued, reports_issue}
use Rattle.squall_report.specs.Openings.{opened_by}

pub record Queries : Type 0 where
  -- the key was loaded at the cell's partition, in its sub-plan
  pub loaded : CellPlace → ℕ → Bool
  -- the cell's partition has all its keys of the sub-plan
  pub done : CellPlace → Bool
  -- how many sub-plans of the number are opened
  pub opened : ℕ → ℕ
  -- what is issued under the number
  pub issued : ℕ → Flat PlanPair

-- both give the same answers
pub record SameQueries (a b : Queries) : Type 0 where
  pub loaded : (c : CellPlace) (k : ℕ) → a.loaded c k ≡ b.loaded c k
  pub done : (c : CellPlace) → a.done c ≡ b.done c
  pub opened : (n : ℕ) → a.opened n ≡ b.opened n
  pub issued : (n : ℕ) → a.issued n ≡ b.issued n

-- nothing loaded, done, opened or issued
abbrev pub no_queries : Queries
no_queries = record { loaded = λ c k. false; done = λ c. false; opened = λ n. 0; issued = λ n. Unknown }

-- loaded or done if either says so, the greater count of opened sub-plans, and what both issue together
abbrev pub joined_queries : Queries → Queries → Queries
joined_queries a b =
    record {
      loaded = λ c k. a.loaded c k || b.loaded c k;
      done = λ c. a.done c || b.done c;
      opened = λ n. max (a.opened n) (b.opened n);
      issued = λ n. both_issued (a.issued n) (b.issued n);
    }

-- ---- of reports

-- the queries of a list of reports
abbrev pub queries_by : List (ReportKind PlanPair) → Queries
queries_by rs =
    record {
      loaded = λ c k. reports_say rs (LoadedKey c k);
      done = λ c. reports_say rs (DonePart c);
      opened = opened_by rs;
      issued = reports_issue rs;
    }

-- these keys loaded at a cell
abbrev pub loaded_queries : CellPlace → (ℕ → Bool) → Queries
loaded_queries cell keys = record { loaded = λ c k. is_same_cell cell c && keys k; done = λ c. false; opened = λ n. 0; issued = λ n. Unknown }

-- a cell done
abbrev pub done_queries : CellPlace → Queries
done_queries cell = record { loaded = λ c k. false; done = λ c. is_same_cell cell c; opened = λ n. 0; issued = λ n. Unknown }

-- a sub-plan opened, and all those before it
abbrev pub opened_queries : ℕ → ℕ → Queries
opened_queries number sub = record { loaded = λ c k. false; done = λ c. false; opened = λ n. if number == n then sub + 1 else 0; issued = λ n. Unknown }

-- a pair of plans issued
abbrev pub issued_queries : ℕ → PlanPair → Queries
issued_queries number pair = record { loaded = λ c k. false; done = λ c. false; opened = λ n. 0; issued = λ n. if number == n then One pair else Unknown }

-- the queries of one report
abbrev pub queries_by_report : ReportKind PlanPair → Queries
queries_by_report (Loaded number sub part span) = loaded_queries (place_at number sub part) (span_has span)
queries_by_report (Done number sub part) = done_queries (place_at number sub part)
queries_by_report (Opened number sub) = opened_queries number sub
queries_by_report (Issued number issue) = issued_queries number issue

-- ---- as facts

-- the fact holds by the queries
abbrev pub queries_say : Queries → Fact → Bool
queries_say t (LoadedKey c k) = t.loaded c k
queries_say t (DonePart c) = t.done c
queries_say t (OpenedSub n s) = nat_lt s (t.opened n)

-- what the queries tell
abbrev pub told_by_queries : Queries → Told
told_by_queries t = record { says = queries_say t; issues = t.issued }
