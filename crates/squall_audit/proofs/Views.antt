-- A node's view follows from its own lines.
use Rattle.std.proofs.Common.{◌≡◌, ◌≢◌, ℕ, ◌+◌, ◌≤◌, ◌==◌, ◌&&◌, ◌||◌, not, true, false, List, [], ◌∷◌, ◌++◌, refl, sym, ap, ◌∙◌, subst, ⊎_elim}
use Rattle.std.proofs.Math.Bool.{and-true}
use Rattle.std.proofs.lemmas.Bool.{eq-eqb, eqb-true, cond-true, cond-false, cases_Bool, both_ways}
use Rattle.squall_span.specs.Spans.{span_has}
use Rattle.squall_plan.specs.declared.range.PlanRange.{PlanRange}
use Rattle.squall_report.specs.declared.report.ReportKind.TheVariants.{Done as DoneReport}
use Rattle.squall_report.specs.Issues.{plan_pair}
use Rattle.squall_report.specs.Cells.{place_at}
use Rattle.squall_report.specs.Queries.{Queries, joined_queries, loaded_queries, done_queries, opened_queries, issued_queries}
use Rattle.squall_board.specs.Boards.{BoardValue}
use Rattle.squall_board.specs.BoardQueries.{queries_of}
use Rattle.squall_protocol.specs.Chunks.{ChunkValue}
use Rattle.squall_protocol.specs.declared.event.Node.{Node}
use Rattle.squall_protocol.specs.declared.event.Node.TheVariants.{Leader, Part, Router}
use Rattle.squall_protocol.specs.declared.event.Event.{Event}
use Rattle.squall_protocol.specs.declared.event.Event.TheVariants.{OpenNext, Begin, BeginFrom, Close, Give, GiveAt, Load, Finish, Send, SendPart, Deliver, Route, Serve}
use Rattle.squall_protocol.specs.declared.answer.Answer.{Answer}
use Rattle.squall_protocol.specs.declared.answer.Answer.TheVariants.{Opened, Begun, Closed, Gave, Loaded, Again, Finished, Sent, Delivered, Routed, Served, Refused}
use Rattle.squall_protocol.specs.declared.answer.Refusal.TheVariants.{NoSuch, NotDone, NoMore, Running, NoNumber, NotOpen, Ended, NothingLeft, ZeroMax, NotOutgoing, Given, NotHeld, Stranger, NotAll, NothingDue, NotKnown}
use Rattle.squall_protocol.specs.Worlds.{WorldValue, SameWorld, same_node}
use Rattle.squall_protocol.specs.Steps.{told_to, after_open, after_begin, after_close, after_give, after_load, after_told, OpenStep, BeginStep, BeginFromStep, CloseStep, GiveStep, GiveAtStep, LoadStep, FinishStep, SendStep, SendPartStep, DeliverStep, RouteStep, ServeStep, Step}
use Rattle.squall_protocol.specs.WorldLaws.{same_world, reached_step}
use Rattle.squall_protocol.specs.ListLaws.{at_one}
use Rattle.squall_protocol.proofs.ProtocolLaws.{course_begun}
use Rattle.squall_audit.specs.Apart.{IsAt, Undisturbed}
use Rattle.squall_audit.specs.Lines.{Line, Own, Gift, Arrival, Saying, Hearing, IsLine, IsNotYet, Happens, View, view, tell, begun, after_line, after_lines, lines_at, LogsTell}
use Rattle.squall_audit.proofs.Apart.{nodes_are_apart}

-- ---- views of worlds that agree

same_view : (m : Node) (w v : WorldValue) → SameWorld v w → view m v ≡ view m w
same_view m w v s = ap (view m) (same_world v w s)

-- the view of a node that is no leader, and that of a node that is no partition
abbrev router_view : Queries → View
router_view told =
    record {
      told = told;
      held = λ k. false;
      closed = λ n. false;
      given = λ n k. false;
      loaded = λ n k. false;
      old = λ n. [];
      new = λ n. [];
      last = 0;
      opened = λ n. 0;
      parts = [];
    }

apart_view : (m : Node) (w u : WorldValue) → Undisturbed w u m → view m u ≡ view m w
apart_view Leader w u d =
    let l = d.lead refl in
    λ i. record (router_view (d.told i)) { old = λ n. l.old n i; new = λ n. l.new n i; last = l.last i; opened = λ n. l.opened n i; parts = l.parts i }
apart_view (Part p) w u d =
    let s = d.part p refl in
    λ i. record (router_view (d.told i)) { held = λ k. s.held k i; closed = λ n. s.closed n i; given = λ n k. s.given n k i; loaded = λ n k. s.loaded n k i }
apart_view (Router r) w u d = ap router_view d.told

-- ---- what a node was told itself

pub same_self : (m : Node) → same_node m m ≡ true
same_self Leader = refl
same_self (Part p) = eq-eqb p p refl
same_self (Router r) = eq-eqb r r refl

told_self : (w : WorldValue) (m : Node) (more : Queries) → told_to w m more m ≡ joined_queries (w.facts m) more
told_self w m more = cond-true (same_node m m) (joined_queries (w.facts m) more) (w.facts m) (same_self m)

told_view : (m : Node) (w : WorldValue) (more : Queries) → view m (after_told w m more) ≡ tell (view m w) more
told_view Leader w more = λ i. record (view Leader w) { told = told_self w Leader more i }
told_view (Part p) w more = λ i. record (view (Part p) w) { told = told_self w (Part p) more i }
told_view (Router r) w more = λ i. record (view (Router r) w) { told = told_self w (Router r) more i }

give_view : (w : WorldValue) (e : Event) (x : ChunkValue) → view (Part x.source) (after_give w x) ≡ after_line (Gift e x) (view (Part x.source) w)
give_view w e x = λ i. record (view (Part x.source) w) {
  held = λ k. w.held x.source k && not (self i && span_has x.span k);
  given = λ n k. w.given n x.source k || ((n == x.number) && (self i && span_has x.span k));
}
  where
    self : (x.source == x.source) ≡ true
    self = eq-eqb x.source x.source refl

load_view : (w : WorldValue) (x : ChunkValue) (report : _) → view (Part x.dest) (after_load w x) ≡ after_line (Arrival x (Loaded report)) (view (Part x.dest) w)
load_view w x report = λ i. record (view (Part x.dest) w) {
  told = told_self w (Part x.dest) (loaded_queries (place_at x.number x.sub x.dest) (span_has x.span)) i;
  held = λ k. w.held x.dest k || (self i && (span_has x.span k && not (w.loaded x.number x.dest k)));
  loaded = λ n k. w.loaded n x.dest k || ((n == x.number) && (self i && span_has x.span k));
}
  where
    self : (x.dest == x.dest) ≡ true
    self = eq-eqb x.dest x.dest refl

open_view : (w : WorldValue) (s : ℕ) → view Leader (after_open w) ≡ after_line (Own OpenNext (Opened s)) (view Leader w)
open_view w s = λ i. record (view Leader (after_open w)) { told = told_self w Leader (opened_queries w.last (w.opened w.last)) i }

begin_view : (w : WorldValue) (old new : List PlanRange) → view Leader (after_begin w old new) ≡ begun old new (view Leader w)
begin_view w old new = λ i. record (view Leader (after_begin w old new)) { told = told_self w Leader (issued_queries (w.last + 1) (plan_pair old new)) i }

close_view : (w : WorldValue) (p number n : ℕ) → number ≡ n → view (Part p) (after_close w number p) ≡ after_line (Own (Close p) (Closed n)) (view (Part p) w)
close_view w p number n is =
    (λ i. record (view (Part p) w) { closed = λ m. w.closed m p || ((m == is i) && eq-eqb p p refl i) })
    ∙ (λ i. record (view (Part p) w) { closed = λ m. w.closed m p || and-true (m == n) i })

sent_view : (m : Node) (w : WorldValue) (xs : List Queries) → view m (record w { messages = xs }) ≡ view m w
sent_view Leader w xs = refl
sent_view (Part p) w xs = refl
sent_view (Router r) w xs = refl

-- ---- each event, at its node

-- the view of a node after what it did follows from its view before and from the line
abbrev Follows : WorldValue → WorldValue → Node → Line → Type 0
Follows w v m l = view m v ≡ after_line l (view m w)

moved : (w v : WorldValue) (m n : Node) (l k : Line) → m ≡ n → l ≡ k → Follows w v n k → Follows w v m l
moved w v m n l k same alike h = subst (λ x. Follows w v x l) (sym same) (subst (λ x. Follows w v n x) (sym alike) h)

module _ (w v : WorldValue) where
  open_follows : (a : Answer) → OpenStep w a v → Follows w v Leader (Own OpenNext a)
  open_follows (Opened s) h = same_view Leader (after_open w) v h.3 ∙ open_view w s
  open_follows (Refused (NotDone s q)) h = same_view Leader w v h.2
  open_follows (Refused NoMore) h = same_view Leader w v h.1
  open_follows _ h = absurd h

  begin_follows : (plan : List PlanRange) (a : Answer) → BeginStep w plan a v → Follows w v Leader (Own (Begin plan) a)
  begin_follows plan (Begun n parts) h = same_view Leader (after_begin w (w.new w.last) plan) v h.5 ∙ begin_view w (w.new w.last) plan
  begin_follows plan (Refused Running) h = same_view Leader w v h.1
  begin_follows plan (Refused NoNumber) h = same_view Leader w v h.2
  begin_follows plan _ h = absurd h

  begin_from_follows : (old new : List PlanRange) (a : Answer) → BeginFromStep w old new a v → Follows w v Leader (Own (BeginFrom old new) a)
  begin_from_follows old new (Begun n parts) h = same_view Leader (after_begin w old new) v h.6 ∙ begin_view w old new
  begin_from_follows old new (Refused Running) h = same_view Leader w v h.1
  begin_from_follows old new (Refused NoNumber) h = same_view Leader w v h.2
  begin_from_follows old new _ h = absurd h

  close_follows : (p : ℕ) (a : Answer) → CloseStep w p a v → Follows w v (Part p) (Own (Close p) a)
  close_follows p (Closed n) h = same_view (Part p) (after_close w h.1.0.number p) v h.1.3 ∙ close_view w p h.1.0.number n (sym h.1.2)
  close_follows p (Refused NoSuch) h = same_view (Part p) w v h.1
  close_follows p _ h = absurd h

  give_follows : (p most : ℕ) (a : Answer) (m : Node) (l : Line) → m ≡ Part p → IsLine w (Give p most) a l → GiveStep w p most a v → Follows w v m l
  give_follows p most (Gave i x) m l here line h =
      moved w v m (Part x.source) l (Gift (Give p most) x) (here ∙ ap Part (sym h.2.4.source)) line (same_view (Part x.source) (after_give w x) v h.3 ∙ give_view w (Give p most) x)
  give_follows p most (Refused NoSuch) m l here line h = moved w v m (Part p) l (Own (Give p most) (Refused NoSuch)) here line (same_view (Part p) w v h.1)
  give_follows p most (Refused NotOpen) m l here line h = moved w v m (Part p) l (Own (Give p most) (Refused NotOpen)) here line (same_view (Part p) w v h.2)
  give_follows p most (Refused Ended) m l here line h = moved w v m (Part p) l (Own (Give p most) (Refused Ended)) here line (same_view (Part p) w v h.2)
  give_follows p most (Refused NothingLeft) m l here line h = moved w v m (Part p) l (Own (Give p most) (Refused NothingLeft)) here line (same_view (Part p) w v h.2)
  give_follows p most (Refused ZeroMax) m l here line h = moved w v m (Part p) l (Own (Give p most) (Refused ZeroMax)) here line (same_view (Part p) w v h.3)
  give_follows p most _ m l here line h = absurd h

  give_at_follows : (p k : ℕ) (a : Answer) (m : Node) (l : Line) → m ≡ Part p → IsLine w (GiveAt p k) a l → GiveAtStep w p k a v → Follows w v m l
  give_at_follows p k (Gave i x) m l here line h =
      moved w v m (Part x.source) l (Gift (GiveAt p k) x) (here ∙ ap Part (sym h.2.7.source)) line (same_view (Part x.source) (after_give w x) v h.3 ∙ give_view w (GiveAt p k) x)
  give_at_follows p k (Refused NoSuch) m l here line h = moved w v m (Part p) l (Own (GiveAt p k) (Refused NoSuch)) here line (same_view (Part p) w v h.1)
  give_at_follows p k (Refused NotOpen) m l here line h = moved w v m (Part p) l (Own (GiveAt p k) (Refused NotOpen)) here line (same_view (Part p) w v h.2)
  give_at_follows p k (Refused Ended) m l here line h = moved w v m (Part p) l (Own (GiveAt p k) (Refused Ended)) here line (same_view (Part p) w v h.2)
  give_at_follows p k (Refused NotOutgoing) m l here line h = moved w v m (Part p) l (Own (GiveAt p k) (Refused NotOutgoing)) here line (same_view (Part p) w v h.2)
  give_at_follows p k (Refused Given) m l here line h = moved w v m (Part p) l (Own (GiveAt p k) (Refused Given)) here line (same_view (Part p) w v h.2)
  give_at_follows p k (Refused NotHeld) m l here line h = moved w v m (Part p) l (Own (GiveAt p k) (Refused NotHeld)) here line (same_view (Part p) w v h.2)
  give_at_follows p k _ m l here line h = absurd h

  load_follows : (i : ℕ) (a : Answer) (m : Node) (l : Line) → (IsNotYet (Load i) a → ⊥) → IsAt w (Load i) m → IsLine w (Load i) a l → LoadStep w i a v → Follows w v m l
  load_follows i (Loaded report) m l such here line h =
      let same : line.0 ≡ h.0 = at_one w.chunks i line.0 h.0 line.1 h.1.chunk in
      let mine : here.0 ≡ h.0 = at_one w.chunks i here.0 h.0 here.1 h.1.chunk in
      moved w v m (Part h.0.dest) l (Arrival h.0 (Loaded report)) (here.2 ∙ ap (λ (y : ChunkValue). Part y.dest) mine) (line.2 ∙ ap (λ (y : ChunkValue). Arrival y (Loaded report)) same)
      (same_view (Part h.0.dest) (after_load w h.0) v h.5 ∙ load_view w h.0 report)
  load_follows i Again m l such here line h = moved w v m (Part here.0.dest) l (Arrival line.0 Again) here.2 line.2 (same_view (Part here.0.dest) w v h.1)
  load_follows i (Refused NoSuch) m l such here line h = absurd (such tt)
  load_follows i (Refused NotOpen) m l such here line h = moved w v m (Part here.0.dest) l (Arrival line.0 (Refused NotOpen)) here.2 line.2 (same_view (Part here.0.dest) w v h.1)
  load_follows i (Refused Stranger) m l such here line h = moved w v m (Part here.0.dest) l (Arrival line.0 (Refused Stranger)) here.2 line.2 (same_view (Part here.0.dest) w v h.1)
  load_follows i _ m l such here line h = absurd h

  finish_follows : (p s : ℕ) (a : Answer) → FinishStep w p s a v → Follows w v (Part p) (Own (Finish p s) a)
  finish_follows p s (Finished report) h =
      moved w v (Part p) (Part p) (Own (Finish p s) (Finished report)) (Own (Finish p s) (Finished (DoneReport h.1.0.number s p))) refl (ap (λ r. Own (Finish p s) (Finished r)) h.1.4)
      (same_view (Part p) (after_told w (Part p) (done_queries (place_at h.1.0.number s p))) v h.1.5 ∙ told_view (Part p) w (done_queries (place_at h.1.0.number s p)))
  finish_follows p s (Refused NoSuch) h = same_view (Part p) w v h.1
  finish_follows p s (Refused NotOpen) h = same_view (Part p) w v h.2
  finish_follows p s (Refused (NotAll span)) h = same_view (Part p) w v h.2
  finish_follows p s (Refused NothingDue) h = same_view (Part p) w v h.2
  finish_follows p s _ h = absurd h

  send_follows : (m : Node) (a : Answer) (message : Queries) → SendStep w m a v → Follows w v m (Saying message)
  send_follows m (Sent index) message h = same_view m (record w { messages = w.messages ++ w.facts m ∷ [] }) v h.2 ∙ sent_view m w (w.messages ++ w.facts m ∷ [])
  send_follows m (Refused NoSuch) message h = same_view m w v h.1
  send_follows m _ message h = absurd h

  send_part_follows : (m : Node) (said : BoardValue) (a : Answer) (l : Line) → IsLine w (SendPart m said) a l → SendPartStep w m said a v → Follows w v m l
  send_part_follows m said (Sent index) l line h =
      moved w v m m l (Saying (queries_of said)) refl line (same_view m (record w { messages = w.messages ++ queries_of said ∷ [] }) v h.3 ∙ sent_view m w (w.messages ++ queries_of said ∷ []))
  send_part_follows m said (Refused NoSuch) l line h = moved w v m m l (Own (SendPart m said) (Refused NoSuch)) refl line (same_view m w v h.1)
  send_part_follows m said (Refused NotKnown) l line h = moved w v m m l (Own (SendPart m said) (Refused NotKnown)) refl line (same_view m w v h.2)
  send_part_follows m said _ l line h = absurd h

  deliver_follows : (i : ℕ) (m : Node) (a : Answer) (l : Line) → (IsNotYet (Deliver i m) a → ⊥) → IsLine w (Deliver i m) a l → DeliverStep w i m a v → Follows w v m l
  deliver_follows i m Delivered l such line h =
      moved w v m m l (Hearing h.1.0) refl (line.2 ∙ ap Hearing (at_one w.messages i line.0 h.1.0 line.1 h.1.1)) (same_view m (after_told w m h.1.0) v h.1.2 ∙ told_view m w h.1.0)
  deliver_follows i m (Refused NoSuch) l such line h = absurd (such tt)
  deliver_follows i m _ l such line h = absurd h

  route_follows : (r k : ℕ) (a : Answer) → RouteStep w r k a v → Follows w v (Router r) (Own (Route r k) a)
  route_follows r k (Routed p) h = same_view (Router r) w v h.2
  route_follows r k (Refused NoSuch) h = same_view (Router r) w v h.1
  route_follows r k _ h = absurd h

  serve_follows : (p k after : ℕ) (a : Answer) → ServeStep w p k after a v → Follows w v (Part p) (Own (Serve p k after) a)
  serve_follows p k after (Served reply) h = same_view (Part p) w v h.2
  serve_follows p k after (Refused NoSuch) h = same_view (Part p) w v h.1
  serve_follows p k after _ h = absurd h

  follows : (m : Node) (e : Event) (a : Answer) (l : Line) → Step w e a v → (IsNotYet e a → ⊥) → IsAt w e m → IsLine w e a l → Follows w v m l
  follows m OpenNext a l h such here line = moved w v m Leader l (Own OpenNext a) here line (open_follows a h)
  follows m (Begin plan) a l h such here line = moved w v m Leader l (Own (Begin plan) a) here line (begin_follows plan a h)
  follows m (BeginFrom old new) a l h such here line = moved w v m Leader l (Own (BeginFrom old new) a) here line (begin_from_follows old new a h)
  follows m (Close p) a l h such here line = moved w v m (Part p) l (Own (Close p) a) here line (close_follows p a h)
  follows m (Give p most) a l h such here line = give_follows p most a m l here line h
  follows m (GiveAt p k) a l h such here line = give_at_follows p k a m l here line h
  follows m (Load i) a l h such here line = load_follows i a m l such here line h
  follows m (Finish p s) a l h such here line = moved w v m (Part p) l (Own (Finish p s) a) here line (finish_follows p s a h)
  follows m (Send node) a l h such here line = moved w v m node l (Saying (w.facts node)) here line (send_follows node a (w.facts node) h)
  follows m (SendPart node said) a l h such here line = subst (λ n. Follows w v n l) (sym here) (send_part_follows node said a l line h)
  follows m (Deliver i node) a l h such here line = subst (λ n. Follows w v n l) (sym here) (deliver_follows i node a l such line h)
  follows m (Route r k) a l h such here line = moved w v m (Router r) l (Own (Route r k) a) here line (route_follows r k a h)
  follows m (Serve p k after) a l h such here line = moved w v m (Part p) l (Own (Serve p k after) a) here line (serve_follows p k after a h)

-- ---- where it happened

pub one_place : (w : WorldValue) (e : Event) (m n : Node) → IsAt w e m → IsAt w e n → m ≡ n
one_place w OpenNext m n a b = a ∙ sym b
one_place w (Begin plan) m n a b = a ∙ sym b
one_place w (BeginFrom old new) m n a b = a ∙ sym b
one_place w (Close p) m n a b = a ∙ sym b
one_place w (Give p most) m n a b = a ∙ sym b
one_place w (GiveAt p k) m n a b = a ∙ sym b
one_place w (Load i) m n a b = a.2 ∙ ap (λ (y : ChunkValue). Part y.dest) (at_one w.chunks i a.0 b.0 a.1 b.1) ∙ sym b.2
one_place w (Finish p s) m n a b = a ∙ sym b
one_place w (Send node) m n a b = a ∙ sym b
one_place w (SendPart node said) m n a b = a ∙ sym b
one_place w (Deliver i node) m n a b = a ∙ sym b
one_place w (Route r k) m n a b = a ∙ sym b
one_place w (Serve p k after) m n a b = a ∙ sym b

pub own_view : (w v : WorldValue) (m : Node) (l : Line) → Happens w m l v → view m v ≡ after_line l (view m w)
own_view w v m l h = follows w v m h.event h.answer l h.step h.there h.here h.line

pub other_view : (w v : WorldValue) (m n : Node) (l : Line) → 1 ≤ w.last → Happens w m l v → n ≢ m → view n v ≡ view n w
other_view w v m n l first h apart = apart_view n w v (nodes_are_apart w v h.event h.answer n first h.step (λ at. apart (one_place w h.event n m at h.here)))

-- ---- all lines

pub same_nodes : (m n : Node) → same_node m n ≡ true → m ≡ n
same_nodes Leader Leader h = refl
same_nodes Leader (Part q) h = absurd (cc)
same_nodes Leader (Router s) h = absurd (cc)
same_nodes (Part p) Leader h = absurd (cc)
same_nodes (Part p) (Part q) h = ap Part (eqb-true p q h)
same_nodes (Part p) (Router s) h = absurd (cc)
same_nodes (Router r) Leader h = absurd (cc)
same_nodes (Router r) (Part q) h = absurd (cc)
same_nodes (Router r) (Router s) h = ap Router (eqb-true r s h)

pub other_nodes : (m n : Node) → same_node m n ≡ false → m ≢ n
other_nodes m n h same = both_ways (same_node m n) h (subst (λ x. same_node m x ≡ true) same (same_self m))

-- one more line, of this node or of another
more_told : (s v u : WorldValue) (n : Node) (l : Line) (ls : List (Node × Line)) (m : Node) → 1 ≤ s.last → Happens s n l v
    → view m u ≡ after_lines (lines_at m ls) (view m v) → view m u ≡ after_lines (lines_at m ((n, l) ∷ ls)) (view m s)
more_told s v u n l ls m first h rest = ⊎_elim
    (λ (same : same_node m n ≡ true).
    let own : view m v ≡ after_line l (view m s) = subst (λ x. view x v ≡ after_line l (view x s)) (sym (same_nodes m n same)) (own_view s v n l h) in
    rest ∙ ap (λ V. after_lines (lines_at m ls) V) own ∙ ap (λ xs. after_lines xs (view m s)) (sym (cond-true (same_node m n) (l ∷ lines_at m ls) (lines_at m ls) same)))
    (λ (other : same_node m n ≡ false).
    rest ∙ ap (λ V. after_lines (lines_at m ls) V) (other_view s v n m l first h (other_nodes m n other))
    ∙ ap (λ xs. after_lines xs (view m s)) (sym (cond-false (same_node m n) (l ∷ lines_at m ls) (lines_at m ls) other)))
    (cases_Bool (same_node m n))

pub logs_tell : LogsTell
logs_tell s u [] m reached trace = ap (λ x. view m x) trace
logs_tell s u ((n, l) ∷ ls) m reached trace =
    more_told s trace.0 u n l ls m (course_begun s reached) trace.1
    (logs_tell trace.0 u ls m (reached_step s trace.0 trace.1.event trace.1.answer reached trace.1.step) trace.2)
