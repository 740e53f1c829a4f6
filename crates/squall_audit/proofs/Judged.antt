-- Logs without what is sent: a run that may be written as first lines of the logs has no line more, or some log can go on.
use Rattle.std.proofs.Common.{◌≡◌, ◌⊎◌, ℕ, ◌+◌, not, Bool, true, false, List, [], ◌∷◌, ◌++◌, map, refl, sym, ap, ◌∙◌, subst, inl, inr, ⊎_elim, append-nil, arith}
use Rattle.std.specs.Prelude.{Some, nat_lt, if◌then◌else◌}
use Rattle.std.specs.List.{slice_get, filter}
use Rattle.std.proofs.lemmas.Bool.{cases_Bool, cond-true, cond-false, or_left, or_right}
use Rattle.squall_join.specs.declared.flat.Flat.TheVariants.{Unknown}
use Rattle.squall_report.specs.declared.report.ReportKind.TheVariants.{Done}
use Rattle.squall_report.specs.Issues.{plan_pair}
use Rattle.squall_report.specs.Cells.{place_at}
use Rattle.squall_report.specs.Queries.{Queries, no_queries, joined_queries, loaded_queries, done_queries, opened_queries, issued_queries}
use Rattle.squall_report.specs.QueriesLaws.{queries_laws}
use Rattle.squall_span.specs.Spans.{span_has}
use Rattle.squall_protocol.specs.Chunks.{ChunkValue}
use Rattle.squall_protocol.specs.declared.event.Node.{Node}
use Rattle.squall_protocol.specs.declared.event.Node.TheVariants.{Leader, Part, Router}
use Rattle.squall_protocol.specs.declared.event.Event.{Event}
use Rattle.squall_protocol.specs.declared.event.Event.TheVariants.{OpenNext, Begin, BeginFrom, Close, Give, GiveAt, Load, Finish, Send, SendPart, Deliver, Route, Serve}
use Rattle.squall_protocol.specs.declared.answer.Answer.{Answer}
use Rattle.squall_protocol.specs.declared.answer.Answer.TheVariants.{Opened, Begun, Closed, Gave, Loaded, Finished, Sent, Delivered, Refused}
use Rattle.squall_protocol.specs.declared.answer.Refusal.TheVariants.{NoSuch}
use Rattle.squall_protocol.specs.Worlds.{WorldValue, is_node}
use Rattle.squall_protocol.specs.Steps.{IsPartOf, Step}
use Rattle.squall_protocol.specs.WorldLaws.{same_as_itself}
use Rattle.squall_protocol.specs.Promises.{IsReached, Happened}
use Rattle.squall_protocol.proofs.ProtocolLaws.{true_reports}
use Rattle.squall_audit.specs.Apart.{IsAt}
use Rattle.squall_audit.specs.Lines.{Line, Own, Gift, Arrival, Saying, Hearing, IsLine, IsNotYet, Happens, Trace, lines_at, View, view, tell, after_line, after_lines}
use Rattle.squall_audit.specs.Merging.{Can}
use Rattle.squall_audit.specs.Logs.{Rooted, is_sent, log_at, all_of, IsWritten, AreWritten, after_heard, CanCome, MayHaveLogs, AreFirst, ComesNext, LogsAreJudged, LogsAreWritten}
use Rattle.squall_audit.proofs.Enabled.{IsThere, can_happen}
use Rattle.squall_audit.proofs.Walk.{Writing, Taken, NextLine, Few, view_more, parts_there, same_routers, sees, walk, reached_by}
use Rattle.squall_audit.proofs.Filtered.{taken_by}
use Rattle.squall_audit.proofs.Greedy.{single}
use Rattle.squall_audit.proofs.Origins.{IsSettled, settled, first_issued, second_issued, joined_first, rooted_later, origins_always}
use Rattle.squall_audit.proofs.Heard.{heard_rooted}

-- ---- what is written makes of its node what the line makes

pub sent_stays : (l : Line) (V : View) → is_sent l ≡ true → after_line l V ≡ V
sent_stays (Saying q) V h = refl
sent_stays (Own (SendPart node said) a) V h = refl
sent_stays (Own OpenNext a) V h = absurd (cc)
sent_stays (Own (Begin plan) a) V h = absurd (cc)
sent_stays (Own (BeginFrom old new) a) V h = absurd (cc)
sent_stays (Own (Close p) a) V h = absurd (cc)
sent_stays (Own (Give p most) a) V h = absurd (cc)
sent_stays (Own (GiveAt p k) a) V h = absurd (cc)
sent_stays (Own (Load i) a) V h = absurd (cc)
sent_stays (Own (Finish p s) a) V h = absurd (cc)
sent_stays (Own (Send node) a) V h = absurd (cc)
sent_stays (Own (Deliver i node) a) V h = absurd (cc)
sent_stays (Own (Route r k) a) V h = absurd (cc)
sent_stays (Own (Serve p k after) a) V h = absurd (cc)
sent_stays (Gift e x) V h = absurd (cc)
sent_stays (Arrival x a) V h = absurd (cc)
sent_stays (Hearing q) V h = absurd (cc)

heard_parts : (parts : List Queries) (V : View) → after_lines (map Hearing parts) V ≡ tell V (all_of parts)
heard_parts [] V = ap (λ f. record V { told = f }) (sym (queries_laws.neutral V.told tt))
heard_parts (q ∷ qs) V = heard_parts qs (tell V q) ∙ ap (λ f. record V { told = f }) (queries_laws.assoc V.told q (all_of qs) tt tt tt)

either : (l : Line) (xs : List Line) (V : View) → xs ≡ (if is_sent l then [] else l ∷ []) → after_lines xs V ≡ after_line l V
either l xs V is = ⊎_elim
    (λ (e : is_sent l ≡ true). ap (λ ys. after_lines ys V) (is ∙ cond-true (is_sent l) [] (l ∷ []) e) ∙ sym (sent_stays l V e))
    (λ (e : is_sent l ≡ false). ap (λ ys. after_lines ys V) (is ∙ cond-false (is_sent l) [] (l ∷ []) e))
    (cases_Bool (is_sent l))

written_view : (l : Line) (xs : List Line) (V : View) → IsWritten l xs → after_lines xs V ≡ after_line l V
written_view (Own e a) xs V is = either (Own e a) xs V is
written_view (Gift e x) xs V is = either (Gift e x) xs V is
written_view (Arrival x a) xs V is = either (Arrival x a) xs V is
written_view (Saying q) xs V is = either (Saying q) xs V is
written_view (Hearing q) xs V is = ap (λ ys. after_lines ys V) is.1 ∙ heard_parts is.0 V ∙ ap (tell V) is.2

pub written : Writing IsWritten
written = record { view = written_view; gift = λ e x xs is. is }

-- ---- what a node knows grows

told_line : (l : Line) (V : View) → (more : Queries) × ((after_line l V).told ≡ joined_queries V.told more)
told_line (Own OpenNext (Opened s)) V = (opened_queries V.last (V.opened V.last), refl)
told_line (Own (Begin plan) (Begun n parts)) V = (issued_queries (V.last + 1) (plan_pair (V.new V.last) plan), refl)
told_line (Own (BeginFrom old new) (Begun n parts)) V = (issued_queries (V.last + 1) (plan_pair old new), refl)
told_line (Own (Close p) (Closed n)) V = (no_queries, sym (queries_laws.neutral V.told tt))
told_line (Own (Finish p s) (Finished (Done n t q))) V = (done_queries (place_at n s p), refl)
told_line (Gift e x) V = (no_queries, sym (queries_laws.neutral V.told tt))
told_line (Arrival x (Loaded report)) V = (loaded_queries (place_at x.number x.sub x.dest) (span_has x.span), refl)
told_line (Hearing message) V = (message, refl)
told_line l V = (no_queries, sym (queries_laws.neutral V.told tt))

told_lines : (ls : List Line) (V : View) → (more : Queries) × ((after_lines ls V).told ≡ joined_queries V.told more)
told_lines [] V = (no_queries, sym (queries_laws.neutral V.told tt))
told_lines (l ∷ ls) V =
    let one = told_line l V in
    let rest = told_lines ls (after_line l V) in
    (joined_queries one.0 rest.0, rest.1 ∙ ap (λ f. joined_queries f rest.0) one.1 ∙ queries_laws.assoc V.told one.0 rest.0 tt tt tt)

told_of : (n : Node) (w : WorldValue) → (view n w).told ≡ w.facts n
told_of Leader w = refl
told_of (Part q) w = refl
told_of (Router r) w = refl

-- ---- what is heard

no_own : (e : Event) (a : Answer) (q : Queries) → Hearing q ≡ Own e a → ⊥
no_own e a q h = cc

same_message : (q r : Queries) → Hearing q ≡ Hearing r → q ≡ r
same_message q r h = cc

-- a message that a node heard is there, and the node is
abbrev Told : WorldValue → Node → Queries → Type 0
Told w m q = (i : ℕ) × (slice_get w.messages i ≡ Some q) × (is_node w m ≡ true)

told_by : (w v : WorldValue) (m : Node) (q : Queries) (e : Event) (a : Answer) → Step w e a v → (IsNotYet e a → ⊥) → IsAt w e m → IsLine w e a (Hearing q) → Told w m q
told_by w v m q OpenNext a h such at line = absurd (no_own OpenNext a q line)
told_by w v m q (Begin plan) a h such at line = absurd (no_own (Begin plan) a q line)
told_by w v m q (BeginFrom old new) a h such at line = absurd (no_own (BeginFrom old new) a q line)
told_by w v m q (Close p) a h such at line = absurd (no_own (Close p) a q line)
told_by w v m q (Give p most) (Gave i x) h such at line = absurd (cc)
told_by w v m q (Give p most) (Refused r) h such at line = absurd (no_own (Give p most) (Refused r) q line)
told_by w v m q (Give p most) _ h such at line = absurd h
told_by w v m q (GiveAt p k) (Gave i x) h such at line = absurd (cc)
told_by w v m q (GiveAt p k) (Refused r) h such at line = absurd (no_own (GiveAt p k) (Refused r) q line)
told_by w v m q (GiveAt p k) _ h such at line = absurd h
told_by w v m q (Load i) a h such at line = absurd (no line.0 line.2)
  where
    no : (x : ChunkValue) → Hearing q ≡ Arrival x a → ⊥
    no x g = cc
told_by w v m q (Finish p s) a h such at line = absurd (no_own (Finish p s) a q line)
told_by w v m q (Send node) a h such at line = absurd (no line)
  where
    no : Hearing q ≡ Saying (w.facts node) → ⊥
    no g = cc
told_by w v m q (SendPart node said) (Sent i) h such at line = absurd (cc)
told_by w v m q (SendPart node said) (Refused r) h such at line = absurd (no_own (SendPart node said) (Refused r) q line)
told_by w v m q (SendPart node said) _ h such at line = absurd h
told_by w v m q (Deliver i node) Delivered h such at line =
    (i, subst (λ r. slice_get w.messages i ≡ Some r) (sym (same_message q line.0 line.2)) line.1, subst (λ n. is_node w n ≡ true) (sym at) h.0)
told_by w v m q (Deliver i node) (Refused NoSuch) h such at line = absurd (such tt)
told_by w v m q (Deliver i node) _ h such at line = absurd h
told_by w v m q (Route r k) a h such at line = absurd (no_own (Route r k) a q line)
told_by w v m q (Serve p k after) a h such at line = absurd (no_own (Serve p k after) a q line)

-- each part of what is known is known
pub first_rooted : (w : WorldValue) (a b : Queries) → Happened w (w.facts Leader) → Rooted w (joined_queries a b) → Rooted w a × Rooted w b
first_rooted w a b t r = (
  record {
    loaded = λ c k h. r.loaded c k (or_left (a.loaded c k) (b.loaded c k) h);
    done = λ c h. r.done c (or_left (a.done c) (b.done c) h);
    opened = λ n. omega (arith, r.opened n);
    issued = λ n. ⊎_elim (λ (none : a.issued n ≡ Unknown). inl none) (λ (all : a.issued n ≡ (joined_queries a b).issued n). at n (a.issued n) all) (first_issued (a.issued n) (b.issued n) (is n));
  },
  record {
    loaded = λ c k h. r.loaded c k (or_right (a.loaded c k) (b.loaded c k) h);
    done = λ c h. r.done c (or_right (a.done c) (b.done c) h);
    opened = λ n. omega (arith, r.opened n);
    issued = λ n. ⊎_elim (λ (none : b.issued n ≡ Unknown). inl none) (λ (all : b.issued n ≡ (joined_queries a b).issued n). at n (b.issued n) all) (second_issued (a.issued n) (b.issued n) (is n));
  },
)
  where
    at : (n : ℕ) (x : _) → x ≡ (joined_queries a b).issued n → (x ≡ Unknown) ⊎ (x ≡ (w.facts Leader).issued n)
    at n x all = ⊎_elim (λ (none : (joined_queries a b).issued n ≡ Unknown). inl (all ∙ none)) (λ (lead : (joined_queries a b).issued n ≡ (w.facts Leader).issued n). inr (all ∙ lead)) (r.issued n)

    is : (n : ℕ) → IsSettled ((joined_queries a b).issued n)
    is n = ⊎_elim (λ (none : (joined_queries a b).issued n ≡ Unknown). inl none) (λ (lead : (joined_queries a b).issued n ≡ (w.facts Leader).issued n). subst IsSettled (sym lead) (settled w (w.facts Leader) n t)) (r.issued n)

-- so each line of a message that is written in parts can come
part_heard : (w : WorldValue) (parts : List Queries) (m : Node) (r : List Line) (k : Line) (more : List Line) → Happened w (w.facts Leader) → is_node w m ≡ true → Rooted w (all_of parts) → map Hearing parts ≡ r ++ k ∷ more → CanCome w m k
part_heard w [] m [] k more t there rooted e = absurd (cc)
part_heard w [] m (x ∷ r) k more t there rooted e = absurd (cc)
part_heard w (q ∷ qs) m [] k more t there rooted e = subst (CanCome w m) (head (map Hearing qs) e) (after_heard w m q, (there, heard_rooted w q (first_rooted w q (all_of qs) t rooted).0, same_as_itself (after_heard w m q)))
  where
    head : (xs : List Line) → Hearing q ∷ xs ≡ k ∷ more → Hearing q ≡ k
    head xs g = cc
part_heard w (q ∷ qs) m (x ∷ r) k more t there rooted e = part_heard w qs m r k more t there (first_rooted w q (all_of qs) t rooted).1 (tail (map Hearing qs) (r ++ k ∷ more) e)
  where
    tail : (xs ys : List Line) → Hearing q ∷ xs ≡ x ∷ ys → xs ≡ ys
    tail xs ys g = cc

-- ---- two runs

module _ (s u : WorldValue) (t : List (Node × Line)) (reached : IsReached s) (trace : Trace s t u) where
  abbrev pub T : Node → List Line
  T m = log_at m t

  not_false : (b : Bool) → not b ≡ false → b ≡ true
  not_false true h = refl
  not_false false h = absurd (cc)

  taken : Taken s u t T
  taken = taken_by (λ l. not (is_sent l)) (λ l V e. sent_stays l V (not_false (is_sent l) e)) s u t reached trace

  end : IsReached u
  end = reached_by s u t reached trace

  module _ (p : List (Node × Line)) (K : Node → List Line) (v z : WorldValue) (n : Node) (few : Few IsWritten s T p K v) where
    grows : (m : Node) → IsPartOf (v.facts m) (u.facts m)
    grows m =
        let more = told_lines (few.begins m).0 (view m v) in
        let all : u.facts m ≡ joined_queries (v.facts m) more.0 =
        sym (told_of m u) ∙ ap (λ (V : View). V.told) (view_more IsWritten written s u t T reached taken p K v few m) ∙ more.1 ∙ ap (λ f. joined_queries f more.0) (told_of m v) in
        subst (IsPartOf (v.facts m)) (sym all) (joined_first (v.facts m) more.0 (λ i. subst (λ (f : Queries). IsSettled (f.issued i)) all (settled u (u.facts m) i (true_reports u end m))))

    pub known : (q : Queries) → Rooted v q → Rooted u q
    known q r = rooted_later v u q (parts_there IsWritten written s u t T reached taken p K v few) grows r

    pub there : (m : Node) → is_node v m ≡ true → is_node u m ≡ true
    there Leader h = refl
    there (Part q) h = parts_there IsWritten written s u t T reached taken p K v few q h
    there (Router r) h = subst (λ k. nat_lt r k ≡ true) (sym (same_routers IsWritten written s u t T reached taken p K v few)) h

    -- a line that is written as it is
    as_it_is : (l : Line) (xs r : List Line) (k : Line) (more : List Line) → IsThere v u l → Happens v n l z → T n ≡ K n ++ r → xs ≡ r ++ k ∷ more → xs ≡ (if is_sent l then [] else l ∷ []) → (is_sent l ≡ false) × Can u n l × (k ≡ l)
    as_it_is l xs r k more said h has on is = ⊎_elim
        (λ (e : is_sent l ≡ true). absurd (no r (sym (is ∙ cond-true (is_sent l) [] (l ∷ []) e) ∙ on)))
        (λ (e : is_sent l ≡ false).
        let one = single l r k more (sym (is ∙ cond-false (is_sent l) [] (l ∷ []) e) ∙ on) in
        (e, can_happen v u z n l (sees IsWritten written s u t T reached taken p K v few n (has ∙ ap (λ ys. K n ++ ys) one.0 ∙ append-nil (K n))) said h, one.1))
        (cases_Bool (is_sent l))
      where
        no : (ys : List Line) → [] ≡ ys ++ k ∷ more → ⊥
        no [] e = cc
        no (y ∷ ys) e = cc

  goes : (p : List (Node × Line)) (K : Node → List Line) (v z : WorldValue) (n : Node) (l : Line) (xs r : List Line) (k : Line) (more : List Line)
      → Few IsWritten s T p K v → Happens v n l z → IsWritten l xs → T n ≡ K n ++ r → xs ≡ r ++ k ∷ more → CanCome u n k
  goes p K v z n (Hearing q) xs r k more few h is has on =
      let came : Told v n q = told_by v z n q h.event h.answer h.step h.there h.here h.line in
      let known_then : Rooted v q = (origins_always v (reached_by s v p reached few.trace)).messages came.0 q came.1 in
      part_heard u is.0 n r k more (true_reports u end Leader) (there p K v z n few n came.2) (subst (Rooted u) (sym is.2) (known p K v z n few q known_then)) (sym is.1 ∙ on)
  goes p K v z n (Own e a) xs r k more few h is has on = let x = as_it_is p K v z n few (Own e a) xs r k more (λ i q at g. absurd (cc)) h has on is in subst (CanCome u n) (sym x.2) (x.1.0, (x.0, x.1.1))
  goes p K v z n (Gift e x) xs r k more few h is has on = let y = as_it_is p K v z n few (Gift e x) xs r k more (λ i q at g. absurd (cc)) h has on is in subst (CanCome u n) (sym y.2) (y.1.0, (y.0, y.1.1))
  goes p K v z n (Arrival x a) xs r k more few h is has on = let y = as_it_is p K v z n few (Arrival x a) xs r k more (λ i q at g. absurd (cc)) h has on is in subst (CanCome u n) (sym y.2) (y.1.0, (y.0, y.1.1))
  goes p K v z n (Saying q) xs r k more few h is has on = let x = as_it_is p K v z n few (Saying q) xs r k more (λ i q at g. absurd (cc)) h has on is in subst (CanCome u n) (sym x.2) (x.1.0, (x.0, x.1.1))

  judged : (logs other : Node → List Line) (v : WorldValue) → AreFirst T logs → MayHaveLogs s other v → AreFirst other logs → AreFirst other T ⊎ ComesNext u logs T
  judged logs other v of_logs may in_logs = ⊎_elim
      (λ (none : AreFirst other T). inl none)
      (λ (next : NextLine (CanCome u) logs T). inr (record { node = next.node; line = next.line; next_line = next.next_line; comes = next.goes }))
      (walk IsWritten written s u t T reached taken logs other of_logs in_logs (CanCome u) goes may.run [] (λ m. []) s v
      (record { trace = refl; written = λ m. refl; begins = λ m. (T m, refl) }) may.trace (λ m. (other m, may.written m, refl)))

pub logs_are_judged : LogsAreJudged
logs_are_judged s u v logs taken_lines other reached has first may in_logs =
    subst (λ taken. AreFirst taken logs → AreFirst other taken ⊎ ComesNext u logs taken) (λ i m. has.written m i) (λ of_logs. judged s u has.run reached has.trace logs other v of_logs may in_logs) first

-- ---- a log is one way to write a run

written_so : (ls : List Line) → AreWritten IsWritten ls (filter (λ l. not (is_sent l)) ls)
written_so [] = refl
written_so (l ∷ ls) = (if is_sent l then [] else l ∷ [], filter (λ k. not (is_sent k)) ls, alone l, split (is_sent l), written_so ls)
  where
    alone : (k : Line) → IsWritten k (if is_sent k then [] else k ∷ [])
    alone (Own e a) = refl
    alone (Gift e x) = refl
    alone (Arrival x a) = refl
    alone (Saying q) = refl
    alone (Hearing q) = (q ∷ [], refl, queries_laws.neutral q tt)

    split : (b : Bool) → (if not b then l ∷ filter (λ k. not (is_sent k)) ls else filter (λ k. not (is_sent k)) ls) ≡ (if b then [] else l ∷ []) ++ filter (λ k. not (is_sent k)) ls
    split true = refl
    split false = refl

pub logs_are_written : LogsAreWritten
logs_are_written s u logs has = record {
  run = has.run;
  trace = has.trace;
  written = λ m. subst (AreWritten IsWritten (lines_at m has.run)) (has.written m) (written_so (lines_at m has.run));
}
