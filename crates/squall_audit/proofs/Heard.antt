-- What is heard: if each thing is known to some node, then a node can send it, report by report; and what is heard in a run is so known.
use Rattle.std.proofs.Common.{◌≡◌, ℕ, zero, suc, ◌≤◌, ◌==◌, ◌&&◌, not, true, false, List, [], ◌∷◌, ◌++◌, length, refl, sym, ap, ◌∙◌, subst, inl, inr, ⊎_elim, append-nil, arith, le_trans, true≢false}
use Rattle.std.specs.Prelude.{if◌then◌else◌}
use Rattle.std.specs.List.{filter}
use Rattle.std.proofs.lemmas.Bool.{cases_Bool, cond-true, cond-false, and_parts, eqb-true}
use Rattle.std.proofs.lemmas.List.Elements.{filter-append}
use Rattle.squall_span.specs.Spans.{span_has}
use Rattle.squall_join.specs.declared.flat.Flat.TheVariants.{Unknown}
use Rattle.squall_report.specs.declared.report.ReportKind.{ReportKind}
use Rattle.squall_report.specs.declared.report.ReportKind.TheVariants.{Loaded, Done, Opened, Issued}
use Rattle.squall_report.specs.Issues.{PlanPair}
use Rattle.squall_report.specs.Cells.{CellPlace, place_at, is_same_cell}
use Rattle.squall_report.specs.Queries.{Queries, queries_by_report}
use Rattle.squall_report.specs.QueriesLaws.{same_queries, told_by_same, report_told_by_queries}
use Rattle.squall_board.specs.Boards.{BoardValue, report_board}
use Rattle.squall_board.specs.BoardLaws.{report_tells}
use Rattle.squall_board.specs.BoardQueries.{queries_of}
use Rattle.squall_board.specs.BoardQueriesLaws.{board_told_by_queries}
use Rattle.squall_protocol.specs.declared.event.Node.{Node}
use Rattle.squall_protocol.specs.declared.event.Node.TheVariants.{Leader, Part, Router}
use Rattle.squall_protocol.specs.declared.event.Event.TheVariants.{SendPart, Deliver}
use Rattle.squall_protocol.specs.declared.answer.Answer.TheVariants.{Opened, Sent, Delivered}
use Rattle.squall_protocol.specs.Worlds.{WorldValue, same_node, is_part, is_node}
use Rattle.squall_protocol.specs.Steps.{IsPartOf}
use Rattle.squall_protocol.specs.WorldLaws.{same_world, same_as_itself}
use Rattle.squall_protocol.specs.Promises.{IsReached}
use Rattle.squall_protocol.specs.ListLaws.{at_end}
use Rattle.squall_audit.specs.Lines.{Line, Own, Gift, Arrival, Saying, Hearing, Trace, lines_at, Happens}
use Rattle.squall_audit.specs.Logs.{SomeNode, CanBeHeard, Rooted, is_sent, log_at, after_heard, Comes, IsOfOneReport, with_lines, HasLogs, OneNodeKnows, OriginsKnow, WhatComesHappens}
use Rattle.squall_audit.proofs.Walk.{lines_both, trace_both, trace_one, reached_by}
use Rattle.squall_audit.proofs.Origins.{Origins, origins_always}

-- ---- known to some node, and known where it comes from

pub rooted_heard : (w : WorldValue) (q : Queries) → Origins w → CanBeHeard w q → Rooted w q
rooted_heard w q origins can =
    record {
      loaded = λ c k h. let x = can.loaded c k h in (origins.facts x.0).loaded c k x.2;
      done = λ c h. let x = can.done c h in (origins.facts x.0).done c x.2;
      opened = λ n. opened n (q.opened n) refl;
      issued = λ n. ⊎_elim (λ (none : q.issued n ≡ Unknown). inl none)
          (λ (x : SomeNode w (λ f. q.issued n ≡ f.issued n)). ⊎_elim (λ (none : (w.facts x.0).issued n ≡ Unknown). inl (x.2 ∙ none)) (λ (lead : (w.facts x.0).issued n ≡ (w.facts Leader).issued n). inr (x.2 ∙ lead)) ((origins.facts x.0).issued n))
          (can.issued n);
    }
  where
    opened : (n t : ℕ) → q.opened n ≡ t → q.opened n ≤ (w.facts Leader).opened n
    opened n zero e = subst (λ t. t ≤ (w.facts Leader).opened n) (sym e) (omega arith)
    opened n (suc t) e = let x = can.opened n (omega (arith, e)) in le_trans x.2 ((origins.facts x.0).opened n)

pub heard_rooted : (w : WorldValue) (q : Queries) → Rooted w q → CanBeHeard w q
heard_rooted w q r =
    record {
      loaded = λ c k h. let x = r.loaded c k h in (Part c.part, x.0, x.1);
      done = λ c h. let x = r.done c h in (Part c.part, x.0, x.1);
      opened = λ n h. (Leader, refl, r.opened n);
      issued = λ n. ⊎_elim (λ (none : q.issued n ≡ Unknown). inl none) (λ (lead : q.issued n ≡ (w.facts Leader).issued n). inr (Leader, refl, lead)) (r.issued n);
    }

-- ---- a report is sent by the node that it comes from

pub told_alone : (r : ReportKind PlanPair) → queries_of (report_board r) ≡ queries_by_report r
told_alone r =
    let a = board_told_by_queries (report_board r) in
    let b = report_tells r in
    let c = report_told_by_queries r in
    same_queries (queries_of (report_board r)) (queries_by_report r)
    ((told_by_same (queries_of (report_board r)) (queries_by_report r)).1 (record { facts = λ f. sym (a.facts f) ∙ b.facts f ∙ c.facts f; issues = λ n. sym (a.issues n) ∙ b.issues n ∙ c.issues n }))

pub same_cell_part : (n s p : ℕ) (c : CellPlace) → is_same_cell (place_at n s p) c ≡ true → c.part ≡ p
same_cell_part n s p c h =
    let x = and_parts (n == c.number) ((s == c.sub) && (p == c.part)) h in
    let y = and_parts (s == c.sub) (p == c.part) x.1 in
    sym (eqb-true p c.part y.1)

abbrev Sender : WorldValue → Queries → Type 0
Sender w q = (n : Node) × (is_node w n ≡ true) × IsPartOf q (w.facts n)

-- what only loads and completions of a partition are: the partition sends it if it is there, and else there is nothing to be sent
sent_by : (w : WorldValue) (q : Queries) (p : ℕ) → Rooted w q → ((c : CellPlace) (k : ℕ) → q.loaded c k ≡ true → c.part ≡ p) → ((c : CellPlace) → q.done c ≡ true → c.part ≡ p) → ((n : ℕ) → q.opened n ≡ 0) → ((n : ℕ) → q.issued n ≡ Unknown) → Sender w q
sent_by w q p r loads dones none never = ⊎_elim
    (λ (is : is_part w p ≡ true). (
      Part p,
      is,
      record {
        loaded = λ c k h. subst (λ x. (w.facts (Part x)).loaded c k ≡ true) (loads c k h) (r.loaded c k h).1;
        done = λ c h. subst (λ x. (w.facts (Part x)).done c ≡ true) (dones c h) (r.done c h).1;
        opened = λ n. subst (λ x. x ≤ (w.facts (Part p)).opened n) (sym (none n)) (omega arith);
        issued = λ n. inl (never n);
      },
    ))
    (λ (apart : is_part w p ≡ false). (
      Leader,
      refl,
      record {
        loaded = λ c k h. absurd (true≢false (sym (r.loaded c k h).0 ∙ ap (is_part w) (loads c k h) ∙ apart));
        done = λ c h. absurd (true≢false (sym (r.done c h).0 ∙ ap (is_part w) (dones c h) ∙ apart));
        opened = λ n. subst (λ x. x ≤ (w.facts Leader).opened n) (sym (none n)) (omega arith);
        issued = λ n. inl (never n);
      },
    ))
    (cases_Bool (is_part w p))

sent_by_leader : (w : WorldValue) (q : Queries) → Rooted w q → ((c : CellPlace) (k : ℕ) → q.loaded c k ≡ false) → ((c : CellPlace) → q.done c ≡ false) → Sender w q
sent_by_leader w q r none never = (
  Leader,
  refl,
  record {
    loaded = λ c k h. absurd (true≢false (sym h ∙ none c k));
    done = λ c h. absurd (true≢false (sym h ∙ never c));
    opened = r.opened;
    issued = r.issued;
  },
)

sender : (w : WorldValue) (r : ReportKind PlanPair) → Rooted w (queries_by_report r) → Sender w (queries_by_report r)
sender w (Loaded number sub part span) rooted =
    sent_by w (queries_by_report (Loaded number sub part span)) part rooted (λ c k h. same_cell_part number sub part c (and_parts (is_same_cell (place_at number sub part) c) (span_has span k) h).0) (λ c h. absurd (true≢false (sym h))) (λ n. refl) (λ n. refl)
sender w (Done number sub part) rooted = sent_by w (queries_by_report (Done number sub part)) part rooted (λ c k h. absurd (true≢false (sym h))) (λ c h. same_cell_part number sub part c h) (λ n. refl) (λ n. refl)
sender w (Opened number sub) rooted = sent_by_leader w (queries_by_report (Opened number sub)) rooted (λ c k. refl) (λ c. refl)
sender w (Issued number issue) rooted = sent_by_leader w (queries_by_report (Issued number issue)) rooted (λ c k. refl) (λ c. refl)

pub origins_know : OriginsKnow
origins_know w message reached can = rooted_heard w message (origins_always w reached) can

pub one_node_knows : OneNodeKnows
one_node_knows w r reached can = sender w r (rooted_heard w (queries_by_report r) (origins_always w reached) can)

-- ---- one line more

-- lines of a run, of which the log of one node has these, and no other log has any
pub record Adds (u v : WorldValue) (m : Node) (ls : List Line) : Type 0 where
  pub run : List (Node × Line)
  pub trace : Trace u run v
  pub logs : (n : Node) → log_at n run ≡ (if same_node n m then ls else [])

one_line : (m : Node) (l : Line) → is_sent l ≡ false → (n : Node) → log_at n ((m, l) ∷ []) ≡ (if same_node n m then l ∷ [] else [])
one_line m l quiet n = ⊎_elim
    (λ (e : same_node n m ≡ true).
    ap (filter (λ k. not (is_sent k))) (cond-true (same_node n m) (l ∷ []) [] e) ∙ cond-true (not (is_sent l)) (l ∷ []) [] (ap not quiet) ∙ sym (cond-true (same_node n m) (l ∷ []) [] e))
    (λ (e : same_node n m ≡ false). ap (filter (λ k. not (is_sent k))) (cond-false (same_node n m) (l ∷ []) [] e) ∙ sym (cond-false (same_node n m) (l ∷ []) [] e))
    (cases_Bool (same_node n m))

no_line : (m : Node) (q : Queries) (n : Node) → log_at n ((m, Saying q) ∷ []) ≡ []
no_line m q n = ⊎_elim
    (λ (e : same_node n m ≡ true). ap (filter (λ k. not (is_sent k))) (cond-true (same_node n m) (Saying q ∷ []) [] e))
    (λ (e : same_node n m ≡ false). ap (filter (λ k. not (is_sent k))) (cond-false (same_node n m) (Saying q ∷ []) [] e))
    (cases_Bool (same_node n m))

pub logs_both : (n : Node) (a b : List (Node × Line)) → log_at n (a ++ b) ≡ log_at n a ++ log_at n b
logs_both n a b = ap (filter (λ k. not (is_sent k))) (lines_both n a b) ∙ filter-append (λ k. not (is_sent k)) (lines_at n a) (lines_at n b)

-- the report is sent, and then heard
-- the board is sent, and then heard
hears : (w : WorldValue) (m n : Node) (said : BoardValue) → is_node w m ≡ true → is_node w n ≡ true → IsPartOf (queries_of said) (w.facts n) → Adds w (after_heard w m (queries_of said)) m (Hearing (queries_of said) ∷ [])
hears w m n said there is part =
    record {
      run = (n, Saying message) ∷ (m, Hearing message) ∷ [];
      trace = (
        sent,
        record {
          event = SendPart n said;
          answer = Sent (length w.messages);
          step = (is, part, refl, same_as_itself sent);
          there = λ no. no;
          here = refl;
          line = refl;
        },
        (
          after_heard w m message,
          record {
            event = Deliver (length w.messages) m;
            answer = Delivered;
            step = (still m there, (message, at_end w.messages message, same_as_itself (after_heard w m message)));
            there = λ no. no;
            here = refl;
            line = (message, at_end w.messages message, refl);
          },
          refl,
        ),
      );
      logs = λ k. logs_both k ((n, Saying message) ∷ []) ((m, Hearing message) ∷ []) ∙ ap (λ xs. xs ++ log_at k ((m, Hearing message) ∷ [])) (no_line n message k) ∙ one_line m (Hearing message) refl k;
    }
  where
    message : Queries
    message = queries_of said

    sent : WorldValue
    sent = record w { messages = w.messages ++ message ∷ [] }

    still : (k : Node) → is_node w k ≡ true → is_node sent k ≡ true
    still Leader h = h
    still (Part p) h = h
    still (Router x) h = h

does : (w v : WorldValue) (m : Node) (l : Line) → is_sent l ≡ false → Happens w m l v → Adds w v m (l ∷ [])
does w v m l quiet h = record { run = (m, l) ∷ []; trace = trace_one w v m l h; logs = one_line m l quiet }

pub comes : (w v : WorldValue) (m : Node) (l : Line) → IsReached w → Comes w m l v → IsOfOneReport l → Adds w v m (l ∷ [])
comes w v m (Own e a) reached now one = does w v m (Own e a) now.0 now.1
comes w v m (Gift e x) reached now one = does w v m (Gift e x) now.0 now.1
comes w v m (Arrival x a) reached now one = does w v m (Arrival x a) now.0 now.1
comes w v m (Saying q) reached now one = does w v m (Saying q) now.0 now.1
comes w v m (Hearing q) reached now (r, is) =
    let by = sender w r (subst (Rooted w) is (rooted_heard w q (origins_always w reached) now.1)) in
    subst (λ x. Adds w x m (Hearing q ∷ [])) (sym (same_world v (after_heard w m q) now.2))
    (subst (λ x. Adds w (after_heard w m x) m (Hearing x ∷ [])) (told_alone r ∙ sym is) (hears w m by.0 (report_board r) now.0 by.1 (subst (λ x. IsPartOf x (w.facts by.0)) (sym (told_alone r)) by.2)))

-- a run that has the logs goes on by such lines
pub goes_on : (s u v : WorldValue) (taken : Node → List Line) (m : Node) (ls : List Line) → HasLogs s taken u → Adds u v m ls → HasLogs s (with_lines taken m ls) v
goes_on s u v taken m ls has more =
    record {
      run = has.run ++ more.run;
      trace = trace_both s u v has.run more.run has.trace more.trace;
      written = λ n. logs_both n has.run more.run ∙ ap (λ xs. xs ++ log_at n more.run) (has.written n) ∙ ap (λ xs. taken n ++ xs) (more.logs n) ∙ all n;
    }
  where
    all : (n : Node) → taken n ++ (if same_node n m then ls else []) ≡ with_lines taken m ls n
    all n = ⊎_elim
        (λ (e : same_node n m ≡ true). ap (λ xs. taken n ++ xs) (cond-true (same_node n m) ls [] e) ∙ sym (cond-true (same_node n m) (taken n ++ ls) (taken n) e))
        (λ (e : same_node n m ≡ false). ap (λ xs. taken n ++ xs) (cond-false (same_node n m) ls [] e) ∙ append-nil (taken n) ∙ sym (cond-false (same_node n m) (taken n ++ ls) (taken n) e))
        (cases_Bool (same_node n m))

pub what_comes_happens : WhatComesHappens
what_comes_happens s u v taken m l reached has now one = goes_on s u v taken m (l ∷ []) has (comes u v m l (reached_by s u has.run reached has.trace) now one)
