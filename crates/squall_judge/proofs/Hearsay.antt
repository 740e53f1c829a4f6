-- What comes of a report that a node received.
use Rattle.std.proofs.Common.{◌≡◌, ℕ, ◌==◌, ◌&&◌, Bool, [], ◌∷◌, ◌++◌, List, length, true, false, refl, sym, ap, ◌∙◌, subst, inl, inr, ⊎_elim, true≢false, arith}
use Rattle.std.specs.Prelude.{None, Some}
use Rattle.std.specs.List.{slice_get}
use Rattle.std.proofs.lemmas.Bool.{and_parts, eq-eqb}
use Rattle.std.proofs.lemmas.Bool.Decides.{nat_tests}
use Rattle.squall_span.specs.Spans.{Interval, span_has}
use Rattle.squall_join.specs.declared.flat.Flat.TheVariants.{Unknown}
use Rattle.squall_report.specs.declared.report.ReportKind.{ReportKind}
use Rattle.squall_report.specs.declared.report.ReportKind.TheVariants.{Loaded, Done, Opened, Issued}
use Rattle.squall_report.specs.Issues.{PlanPair}
use Rattle.squall_report.specs.Cells.{CellPlace, place_at, is_cell_place, is_same_cell}
use Rattle.squall_report.specs.Facts.{is_report, is_key_span}
use Rattle.squall_report.specs.Queries.{Queries, queries_by_report}
use Rattle.squall_board.specs.Boards.{BoardValue, report_board}
use Rattle.squall_board.specs.BoardQueries.{queries_of}
use Rattle.squall_protocol.specs.Chunks.{ChunkValue}
use Rattle.squall_protocol.specs.declared.event.Node.{Node}
use Rattle.squall_protocol.specs.declared.event.Node.TheVariants.{Leader, Part, Router}
use Rattle.squall_protocol.specs.declared.answer.Answer.{Answer}
use Rattle.squall_protocol.specs.declared.answer.Answer.TheVariants.{Sent, Delivered, Refused}
use Rattle.squall_protocol.specs.declared.answer.Refusal.TheVariants.{NoSuch, NotKnown}
use Rattle.squall_protocol.specs.Worlds.{WorldValue, SameWorld, is_node}
use Rattle.squall_protocol.specs.Steps.{IsPartOf, after_told, SendPartStep, DeliverStep}
use Rattle.squall_protocol.specs.WorldLaws.{same_world}
use Rattle.squall_protocol.specs.Promises.{IsReached}
use Rattle.squall_protocol.specs.ListLaws.{at_end, at_one}
use Rattle.squall_audit.specs.Lines.{Hearing}
use Rattle.squall_audit.specs.Logs.{CanBeHeard, Rooted, OriginsKnow, after_heard}
use Rattle.squall_audit.proofs.Heard.{told_alone, same_cell_part}
use Rattle.squall_judge.specs.declared.turn.Turn.TheVariants.{Taken, Waits}
use Rattle.squall_judge.specs.Turns.{origin_of, IsTurn}

-- ---- what is known where it comes from

both : (a b : Bool) → a ≡ true → b ≡ true → (a && b) ≡ true
both true true e f = refl
both true false e f = absurd (cc)
both false b e f = absurd (cc)

cell_itself : (c : CellPlace) → is_same_cell c c ≡ true
cell_itself c = both (c.number == c.number) ((c.sub == c.sub) && (c.part == c.part)) (eq-eqb c.number c.number refl) (both (c.sub == c.sub) (c.part == c.part) (eq-eqb c.sub c.sub refl) (eq-eqb c.part c.part refl))

-- the first key of a span with keys
low_key : (span : Interval) → is_key_span span ≡ true → span_has span span.lo ≡ true
low_key span is = grind (arith, nat_tests)

first_key : (number sub part : ℕ) (span : Interval) → is_report (Loaded number sub part span) ≡ true → (queries_by_report (Loaded number sub part span)).loaded (place_at number sub part) span.lo ≡ true
first_key number sub part span is =
    both (is_same_cell (place_at number sub part) (place_at number sub part)) (span_has span span.lo) (cell_itself (place_at number sub part))
    (low_key span (and_parts (is_cell_place (place_at number sub part)) (is_key_span span) is).1)

-- the node from which the report comes is there, and knows all of it
abbrev AtOrigin : WorldValue → ReportKind PlanPair → Type 0
AtOrigin w r = (is_node w (origin_of r) ≡ true) × IsPartOf (queries_by_report r) (w.facts (origin_of r))

at_origin : (w : WorldValue) (r : ReportKind PlanPair) → is_report r ≡ true → Rooted w (queries_by_report r) → AtOrigin w r
at_origin w (Loaded number sub part span) is r = (
  (r.loaded (place_at number sub part) span.lo (first_key number sub part span is)).0,
  record {
    loaded = λ c k h. subst (λ x. (w.facts (Part x)).loaded c k ≡ true) (same_cell_part number sub part c (and_parts (is_same_cell (place_at number sub part) c) (span_has span k) h).0) (r.loaded c k h).1;
    done = λ c h. absurd (true≢false (sym h));
    opened = λ n. omega arith;
    issued = λ n. inl refl;
  },
)
at_origin w (Done number sub part) is r = (
  (r.done (place_at number sub part) (cell_itself (place_at number sub part))).0,
  record {
    loaded = λ c k h. absurd (true≢false (sym h));
    done = λ c h. subst (λ x. (w.facts (Part x)).done c ≡ true) (same_cell_part number sub part c h) (r.done c h).1;
    opened = λ n. omega arith;
    issued = λ n. inl refl;
  },
)
at_origin w (Opened number sub) is r =
    (refl, record { loaded = λ c k h. absurd (true≢false (sym h)); done = λ c h. absurd (true≢false (sym h)); opened = r.opened; issued = r.issued })
at_origin w (Issued number issue) is r =
    (refl, record { loaded = λ c k h. absurd (true≢false (sym h)); done = λ c h. absurd (true≢false (sym h)); opened = r.opened; issued = r.issued })

-- ---- what is sent, and heard

part_heard : (w : WorldValue) (n : Node) (q : Queries) → is_node w n ≡ true → IsPartOf q (w.facts n) → CanBeHeard w q
part_heard w n q is part =
    record {
      loaded = λ c k h. (n, is, part.loaded c k h);
      done = λ c h. (n, is, part.done c h);
      opened = λ k h. (n, is, part.opened k);
      issued = λ k. ⊎_elim (λ (none : q.issued k ≡ Unknown). inl none) (λ (same : q.issued k ≡ (w.facts n).issued k). inr (n, is, same)) (part.issued k);
    }

pub heard_absent : (w : WorldValue) (m : Node) (q : Queries) (chunks : List ChunkValue) → is_node w m ≡ false → chunks ≡ w.chunks → IsTurn w m (Hearing q) Waits w chunks
heard_absent w m q chunks never known = (refl, (λ can. true≢false (sym can.1.0 ∙ never)), known)

pub heard_unknown : (w v : WorldValue) (m : Node) (r : ReportKind PlanPair) (board : BoardValue) (a : Answer) (chunks : List ChunkValue) → IsReached w → OriginsKnow → is_report r ≡ true → board ≡ report_board r
    → SendPartStep w (origin_of r) board a v → ((i : ℕ) → a ≡ Sent i → ⊥) → chunks ≡ w.chunks → IsTurn w m (Hearing (queries_by_report r)) Waits v chunks
heard_unknown w v m r board a chunks reached know is same step never known = waits a step never
  where
    told : queries_of board ≡ queries_by_report r
    told = ap queries_of same ∙ told_alone r

    waits_so : (v ≡ w) → (AtOrigin w r → ⊥) → IsTurn w m (Hearing (queries_by_report r)) Waits v chunks
    waits_so e none = (e, (λ can. none (at_origin w r is (know w (queries_by_report r) reached can.1.1))), known ∙ ap (λ (z : WorldValue). z.chunks) (sym e))

    waits : (b : Answer) → SendPartStep w (origin_of r) board b v → ((i : ℕ) → b ≡ Sent i → ⊥) → IsTurn w m (Hearing (queries_by_report r)) Waits v chunks
    waits (Sent i) h none = absurd (none i refl)
    waits (Refused NoSuch) h none = waits_so (same_world v w h.1) (λ at. true≢false (sym at.0 ∙ h.0))
    waits (Refused NotKnown) h none = waits_so (same_world v w h.2) (λ at. h.1 (subst (λ q. IsPartOf q (w.facts (origin_of r))) (sym told) at.1))
    waits _ h none = absurd h

-- a message that was just sent comes to the node
module _ (w : WorldValue) (m : Node) (q : Queries) (there : is_node w m ≡ true) where
  abbrev sent : WorldValue
  sent = record w { messages = w.messages ++ q ∷ [] }

  still : (k : Node) → is_node w k ≡ true → is_node sent k ≡ true
  still Leader h = h
  still (Part p) h = h
  still (Router x) h = h

  delivered : (b : Answer) (v : WorldValue) → DeliverStep sent (length w.messages) m b v → SameWorld v (after_heard w m q)
  delivered Delivered v g = subst (λ x. SameWorld v (after_told sent m x)) (at_one sent.messages (length w.messages) g.1.0 q g.1.1 (at_end w.messages q)) g.1.2
  delivered (Refused NoSuch) v g = ⊎_elim
      (λ (never : is_node sent m ≡ false). absurd (true≢false (sym (still m there) ∙ never)))
      (λ (never : slice_get sent.messages (length w.messages) ≡ None). absurd (none (sym never ∙ at_end w.messages q)))
      g.0
    where
      none : None ≡ Some q → ⊥
      none e = cc
  delivered _ v g = absurd g

pub heard_taken : (w u v : WorldValue) (m : Node) (r : ReportKind PlanPair) (board : BoardValue) (i : ℕ) (b : Answer) (chunks : List ChunkValue) → is_node w m ≡ true → board ≡ report_board r
    → SendPartStep w (origin_of r) board (Sent i) u → DeliverStep u i m b v → chunks ≡ w.chunks → IsTurn w m (Hearing (queries_by_report r)) Taken v chunks
heard_taken w u v m r board i b chunks there same step delivery known =
    ((there, part_heard w (origin_of r) q step.0 (subst (λ x. IsPartOf x (w.facts (origin_of r))) told step.1), after), known ∙ sym after.chunks)
  where
    q : Queries
    q = queries_by_report r

    told : queries_of board ≡ q
    told = ap queries_of same ∙ told_alone r

    sent_is : u ≡ sent w m q there
    sent_is = same_world u (record w { messages = w.messages ++ queries_of board ∷ [] }) step.3 ∙ ap (λ x. record w { messages = w.messages ++ x ∷ [] }) told

    after : SameWorld v (after_heard w m q)
    after = delivered w m q there b v (subst (λ z. DeliverStep z (length w.messages) m b v) sent_is (subst (λ j. DeliverStep u j m b v) step.2 delivery))
