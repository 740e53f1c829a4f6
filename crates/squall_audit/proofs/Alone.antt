-- A message of several reports is heard report by report.
use Rattle.std.proofs.Common.{◌≡◌, true, false, List, [], ◌∷◌, ◌++◌, map, refl, sym, ap, ◌∙◌, subst, ⊎_elim}
use Rattle.std.specs.Prelude.{if◌then◌else◌}
use Rattle.std.proofs.lemmas.Bool.{cases_Bool, cond-true, cond-false}
use Rattle.squall_report.specs.declared.report.ReportKind.{ReportKind}
use Rattle.squall_report.specs.Issues.{PlanPair}
use Rattle.squall_report.specs.Queries.{Queries, joined_queries, queries_by, queries_by_report}
use Rattle.squall_report.specs.QueriesLaws.{same_queries, queries_append, report_queries}
use Rattle.squall_protocol.specs.declared.event.Node.{Node}
use Rattle.squall_protocol.specs.declared.event.Node.TheVariants.{Leader}
use Rattle.squall_protocol.specs.Worlds.{WorldValue, same_node, is_node}
use Rattle.squall_protocol.specs.WorldLaws.{same_as_itself}
use Rattle.squall_protocol.specs.Promises.{IsReached}
use Rattle.squall_protocol.proofs.ProtocolLaws.{true_reports}
use Rattle.squall_audit.specs.Lines.{Line, Hearing}
use Rattle.squall_audit.specs.Logs.{Rooted, log_at, after_heard, IsWritten, ReportsComeAlone}
use Rattle.squall_audit.proofs.Walk.{Few, trace_both, reached_by}
use Rattle.squall_audit.proofs.Origins.{origins_always}
use Rattle.squall_audit.proofs.Heard.{Adds, rooted_heard, heard_rooted, logs_both, comes, goes_on}
use Rattle.squall_audit.proofs.Judged.{first_rooted, known, there, T}

-- lines of a node, and then more of it
adds_both : (u v z : WorldValue) (m : Node) (ks ls : List Line) → Adds u v m ks → Adds v z m ls → Adds u z m (ks ++ ls)
adds_both u v z m ks ls first more =
    record {
      run = first.run ++ more.run;
      trace = trace_both u v z first.run more.run first.trace more.trace;
      logs = λ n. logs_both n first.run more.run ∙ ap (λ xs. xs ++ log_at n more.run) (first.logs n) ∙ ap (λ xs. (if same_node n m then ks else []) ++ xs) (more.logs n) ∙ both n;
    }
  where
    both : (n : Node) → (if same_node n m then ks else []) ++ (if same_node n m then ls else []) ≡ (if same_node n m then ks ++ ls else [])
    both n = ⊎_elim
        (λ (e : same_node n m ≡ true).
        ap (λ xs. xs ++ (if same_node n m then ls else [])) (cond-true (same_node n m) ks [] e) ∙ ap (λ xs. ks ++ xs) (cond-true (same_node n m) ls [] e) ∙ sym (cond-true (same_node n m) (ks ++ ls) [] e))
        (λ (e : same_node n m ≡ false).
        ap (λ xs. xs ++ (if same_node n m then ls else [])) (cond-false (same_node n m) ks [] e) ∙ cond-false (same_node n m) ls [] e ∙ sym (cond-false (same_node n m) (ks ++ ls) [] e))
        (cases_Bool (same_node n m))

-- the queries of a list are those of its first report and of the others
by_first : (r : ReportKind PlanPair) (rs : List (ReportKind PlanPair)) → queries_by (r ∷ rs) ≡ joined_queries (queries_by_report r) (queries_by rs)
by_first r rs =
    same_queries (queries_by (r ∷ rs)) (joined_queries (queries_by (r ∷ [])) (queries_by rs)) (queries_append (r ∷ []) rs)
    ∙ ap (λ q. joined_queries q (queries_by rs)) (same_queries (queries_by (r ∷ [])) (queries_by_report r) (report_queries r))

alone : (w : WorldValue) (m : Node) (rs : List (ReportKind PlanPair)) → IsReached w → is_node w m ≡ true → Rooted w (queries_by rs)
    → (v : WorldValue) × Adds w v m (map (λ r. Hearing (queries_by_report r)) rs)
alone w m [] reached is rooted = (w, record { run = []; trace = refl; logs = λ n. ⊎_elim (λ (e : same_node n m ≡ true). sym (cond-true (same_node n m) [] [] e)) (λ (e : same_node n m ≡ false). sym (cond-false (same_node n m) [] [] e)) (cases_Bool (same_node n m)) })
alone w m (r ∷ rs) reached is rooted =
    let rest = alone v m rs reached_v is_there rooted_rest in
    (rest.0, adds_both w v rest.0 m (Hearing (queries_by_report r) ∷ []) (map (λ x. Hearing (queries_by_report x)) rs) first.1 rest.1)
  where
    both : Rooted w (queries_by_report r) × Rooted w (queries_by rs)
    both = first_rooted w (queries_by_report r) (queries_by rs) (true_reports w reached Leader) (subst (Rooted w) (by_first r rs) rooted)

    first : (v : WorldValue) × Adds w v m (Hearing (queries_by_report r) ∷ [])
    first =
        let said : Queries = queries_by_report r in
        (after_heard w m said, comes w (after_heard w m said) m (Hearing said) reached (is, heard_rooted w said both.0, same_as_itself (after_heard w m said)) (r, refl))

    v : WorldValue
    v = first.0

    t : List (Node × Line)
    t = first.1.run

    few : Few IsWritten w (T w v t reached first.1.trace) [] (λ n. []) w
    few = record { trace = refl; written = λ n. refl; begins = λ n. (log_at n t, refl) }

    reached_v : IsReached v
    reached_v = reached_by w v t reached first.1.trace

    is_there : is_node v m ≡ true
    is_there = there w v t reached first.1.trace [] (λ n. []) w w Leader few m is

    rooted_rest : Rooted v (queries_by rs)
    rooted_rest = known w v t reached first.1.trace [] (λ n. []) w w Leader few (queries_by rs) both.1

pub reports_come_alone : ReportsComeAlone
reports_come_alone s u taken m rs reached has can =
    let end : IsReached u = reached_by s u has.run reached has.trace in
    let next = alone u m rs end can.1.0 (rooted_heard u (queries_by rs) (origins_always u end) can.1.1) in
    (next.0, goes_on s u next.0 taken m (map (λ r. Hearing (queries_by_report r)) rs) has next.1)
