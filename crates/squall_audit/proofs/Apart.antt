-- What happens at one node leaves the others as they were.
use Rattle.std.proofs.Common.{◌≡◌, ℕ, ◌+◌, ◌≤◌, ◌==◌, ◌&&◌, ◌||◌, not, Bool, true, false, List, [], ◌∷◌, ◌++◌, refl, sym, ap, ◌∙◌, subst, append-nil, arith}
use Rattle.std.specs.Prelude.{if◌then◌else◌}
use Rattle.std.proofs.lemmas.Bool.{ne_eqb, cond-false}
use Rattle.squall_span.specs.Spans.{span_has}
use Rattle.squall_plan.specs.declared.range.PlanRange.{PlanRange}
use Rattle.squall_report.specs.Queries.{Queries, joined_queries}
use Rattle.squall_board.specs.Boards.{BoardValue}
use Rattle.squall_board.specs.BoardQueries.{queries_of}
use Rattle.squall_protocol.specs.Chunks.{ChunkValue}
use Rattle.squall_protocol.specs.declared.event.Node.{Node}
use Rattle.squall_protocol.specs.declared.event.Node.TheVariants.{Leader, Part, Router}
use Rattle.squall_protocol.specs.declared.event.Event.TheVariants.{OpenNext, Begin, BeginFrom, Close, Give, GiveAt, Load, Finish, Send, SendPart, Deliver, Route, Serve}
use Rattle.squall_protocol.specs.declared.answer.Answer.{Answer}
use Rattle.squall_protocol.specs.declared.answer.Answer.TheVariants.{Opened, Begun, Closed, Gave, Loaded, Again, Finished, Sent, Delivered, Routed, Served, Refused}
use Rattle.squall_protocol.specs.declared.answer.Refusal.TheVariants.{NoSuch, NotDone, NoMore, Running, NoNumber, NotOpen, Ended, NothingLeft, ZeroMax, NotOutgoing, Given, NotHeld, Stranger, NotAll, NothingDue, NotKnown}
use Rattle.squall_protocol.specs.Worlds.{WorldValue, SameWorld, same_node}
use Rattle.squall_protocol.specs.Steps.{told_to, new_parts, after_open, after_begin, after_close, after_give, after_load, after_told, OpenStep, BeginStep, BeginFromStep, CloseStep, GiveStep, GiveAtStep, LoadStep, FinishStep, SendStep, SendPartStep, DeliverStep, RouteStep, ServeStep}
use Rattle.squall_protocol.specs.WorldLaws.{same_world}
use Rattle.squall_audit.specs.Apart.{IsAt, Grows, Undisturbed, NodesAreApart}

-- ---- small facts

differ : (m n : Node) → (m ≡ n → ⊥) → same_node m n ≡ false
differ Leader Leader h = absurd (h refl)
differ Leader (Part q) h = refl
differ Leader (Router s) h = refl
differ (Part p) Leader h = refl
differ (Part p) (Part q) h = ne_eqb p q (λ e. h (ap Part e))
differ (Part p) (Router s) h = refl
differ (Router r) Leader h = refl
differ (Router r) (Part q) h = refl
differ (Router r) (Router s) h = ne_eqb r s (λ e. h (ap Router e))

true_is_false : true ≡ false → ⊥
true_is_false h = cc

still_and : (a b c : Bool) → b ≡ false → (a && not (b && c)) ≡ a
still_and true true c e = absurd (true_is_false e)
still_and true false c e = refl
still_and false b c e = refl

still_or : (a n b c : Bool) → b ≡ false → (a || (n && (b && c))) ≡ a
still_or true n b c e = refl
still_or false false b c e = refl
still_or false true true c e = absurd (true_is_false e)
still_or false true false c e = refl

still_or_one : (a b c : Bool) → b ≡ false → (a || (b && c)) ≡ a
still_or_one true b c e = refl
still_or_one false true c e = absurd (true_is_false e)
still_or_one false false c e = refl

still_or_last : (a n b : Bool) → b ≡ false → (a || (n && b)) ≡ a
still_or_last true n b e = refl
still_or_last false false b e = refl
still_or_last false true true e = absurd (true_is_false e)
still_or_last false true false e = refl

pub stay : {A : Type 0} (xs : List A) → Grows xs xs
stay xs = ([], sym (append-nil xs))

-- what other nodes were told
told_apart : (w : WorldValue) (m node : Node) (more : Queries) → (m ≡ node → ⊥) → told_to w node more m ≡ w.facts m
told_apart w m node more apart = cond-false (same_node m node) (joined_queries (w.facts m) more) (w.facts m) (differ m node apart)

-- ---- the worlds after the events

-- a world that agrees with an undisturbed one
agreed : (w u x : WorldValue) (m : Node) → SameWorld u x → Undisturbed w x m → Undisturbed w u m
agreed w u x m same d = subst (λ y. Undisturbed w y m) (sym (same_world u x same)) d

still : (w : WorldValue) (m : Node) → Undisturbed w w m
still w m =
    record {
      told = refl;
      part = λ p is. record { held = λ k. refl; closed = λ n. refl; given = λ n k. refl; loaded = λ n k. refl };
      lead = λ is. record { old = λ n. refl; new = λ n. refl; last = refl; opened = λ n. refl; parts = refl };
      first = refl;
      routers = refl;
      parts = stay w.parts;
      chunks = stay w.chunks;
      messages = stay w.messages;
    }

unchanged : (w u : WorldValue) (m : Node) → SameWorld u w → Undisturbed w u m
unchanged w u m same = agreed w u w m same (still w m)

told : (w u : WorldValue) (m node : Node) (more : Queries) → (m ≡ node → ⊥) → SameWorld u (after_told w node more) → Undisturbed w u m
told w u m node more apart same =
    agreed w u (after_told w node more) m same
    (record {
      told = told_apart w m node more apart;
      part = λ p is. record { held = λ k. refl; closed = λ n. refl; given = λ n k. refl; loaded = λ n k. refl };
      lead = λ is. record { old = λ n. refl; new = λ n. refl; last = refl; opened = λ n. refl; parts = refl };
      first = refl;
      routers = refl;
      parts = stay w.parts;
      chunks = stay w.chunks;
      messages = stay w.messages;
    })

sent : (w u : WorldValue) (m : Node) (said : Queries) → SameWorld u (record w { messages = w.messages ++ said ∷ [] }) → Undisturbed w u m
sent w u m said same =
    agreed w u (record w { messages = w.messages ++ said ∷ [] }) m same
    (record {
      told = refl;
      part = λ p is. record { held = λ k. refl; closed = λ n. refl; given = λ n k. refl; loaded = λ n k. refl };
      lead = λ is. record { old = λ n. refl; new = λ n. refl; last = refl; opened = λ n. refl; parts = refl };
      first = refl;
      routers = refl;
      parts = stay w.parts;
      chunks = stay w.chunks;
      messages = (said ∷ [], refl);
    })

-- ---- the leader

module _ (w u : WorldValue) (m : Node) (apart : m ≡ Leader → ⊥) where
  opened : SameWorld u (after_open w) → Undisturbed w u m
  opened same =
      agreed w u (after_open w) m same
      (record {
        told = told_apart w m Leader _ apart;
        part = λ p is. record { held = λ k. refl; closed = λ n. refl; given = λ n k. refl; loaded = λ n k. refl };
        lead = λ is. absurd (apart is);
        first = refl;
        routers = refl;
        parts = stay w.parts;
        chunks = stay w.chunks;
        messages = stay w.messages;
      })

  open_apart : (r : Answer) → OpenStep w r u → Undisturbed w u m
  open_apart (Opened s) h = opened h.3
  open_apart (Refused (NotDone s q)) h = unchanged w u m h.2
  open_apart (Refused NoMore) h = unchanged w u m h.1
  open_apart _ h = absurd h

  -- the first course stays when another begins
  first_stays : (plan : List PlanRange) (before : ℕ → List PlanRange) → 1 ≤ w.last → (if 1 == w.last + 1 then plan else before 1) ≡ before 1
  first_stays plan before first = cond-false (1 == w.last + 1) plan (before 1) (ne_eqb 1 (w.last + 1) (λ e. absurd (omega arith)))

  begun : (old new : List PlanRange) → 1 ≤ w.last → SameWorld u (after_begin w old new) → Undisturbed w u m
  begun old new first same =
      agreed w u (after_begin w old new) m same
      (record {
        told = told_apart w m Leader _ apart;
        part = λ p is. record { held = λ k. refl; closed = λ n. refl; given = λ n k. refl; loaded = λ n k. refl };
        lead = λ is. absurd (apart is);
        first = λ i. record { number = 1; old = first_stays old w.old first i; new = first_stays new w.new first i };
        routers = refl;
        parts = (new_parts w new, refl);
        chunks = stay w.chunks;
        messages = stay w.messages;
      })

  begin_apart : (plan : List PlanRange) (r : Answer) → 1 ≤ w.last → BeginStep w plan r u → Undisturbed w u m
  begin_apart plan (Begun n parts) first h = begun (w.new w.last) plan first h.5
  begin_apart plan (Refused Running) first h = unchanged w u m h.1
  begin_apart plan (Refused NoNumber) first h = unchanged w u m h.2
  begin_apart plan _ first h = absurd h

  begin_from_apart : (old new : List PlanRange) (r : Answer) → 1 ≤ w.last → BeginFromStep w old new r u → Undisturbed w u m
  begin_from_apart old new (Begun n parts) first h = begun old new first h.6
  begin_from_apart old new (Refused Running) first h = unchanged w u m h.1
  begin_from_apart old new (Refused NoNumber) first h = unchanged w u m h.2
  begin_from_apart old new _ first h = absurd h

-- ---- closes, gifts and loads

module _ (w u : WorldValue) (m : Node) where
  shut : (n p : ℕ) → (m ≡ Part p → ⊥) → SameWorld u (after_close w n p) → Undisturbed w u m
  shut n p apart same =
      agreed w u (after_close w n p) m same
      (record {
        told = refl;
        part = λ q is. record {
          held = λ k. refl;
          closed = λ j. still_or_last (w.closed j q) (j == n) (q == p) (ne_eqb q p (λ e. apart (is ∙ ap Part e)));
          given = λ j k. refl;
          loaded = λ j k. refl;
        };
        lead = λ is. record { old = λ j. refl; new = λ j. refl; last = refl; opened = λ j. refl; parts = refl };
        first = refl;
        routers = refl;
        parts = stay w.parts;
        chunks = stay w.chunks;
        messages = stay w.messages;
      })

  close_apart : (p : ℕ) (r : Answer) → (m ≡ Part p → ⊥) → CloseStep w p r u → Undisturbed w u m
  close_apart p (Closed n) apart h = shut h.1.0.number p apart h.1.3
  close_apart p (Refused NoSuch) apart h = unchanged w u m h.1
  close_apart p _ apart h = absurd h

  gave : (x : ChunkValue) → (m ≡ Part x.source → ⊥) → SameWorld u (after_give w x) → Undisturbed w u m
  gave x apart same =
      agreed w u (after_give w x) m same
      (record {
        told = refl;
        part = λ p is. let other : (p == x.source) ≡ false = ne_eqb p x.source (λ e. apart (is ∙ ap Part e)) in record {
          held = λ k. still_and (w.held p k) (p == x.source) (span_has x.span k) other;
          closed = λ n. refl;
          given = λ n k. still_or (w.given n p k) (n == x.number) (p == x.source) (span_has x.span k) other;
          loaded = λ n k. refl;
        };
        lead = λ is. record { old = λ n. refl; new = λ n. refl; last = refl; opened = λ n. refl; parts = refl };
        first = refl;
        routers = refl;
        parts = stay w.parts;
        chunks = (x ∷ [], refl);
        messages = stay w.messages;
      })

  give_apart : (p most : ℕ) (r : Answer) → (m ≡ Part p → ⊥) → GiveStep w p most r u → Undisturbed w u m
  give_apart p most (Gave i x) apart h = gave x (λ is. apart (is ∙ ap Part h.2.4.source)) h.3
  give_apart p most (Refused NoSuch) apart h = unchanged w u m h.1
  give_apart p most (Refused NotOpen) apart h = unchanged w u m h.2
  give_apart p most (Refused Ended) apart h = unchanged w u m h.2
  give_apart p most (Refused NothingLeft) apart h = unchanged w u m h.2
  give_apart p most (Refused ZeroMax) apart h = unchanged w u m h.3
  give_apart p most _ apart h = absurd h

  give_at_apart : (p k : ℕ) (r : Answer) → (m ≡ Part p → ⊥) → GiveAtStep w p k r u → Undisturbed w u m
  give_at_apart p k (Gave i x) apart h = gave x (λ is. apart (is ∙ ap Part h.2.7.source)) h.3
  give_at_apart p k (Refused NoSuch) apart h = unchanged w u m h.1
  give_at_apart p k (Refused NotOpen) apart h = unchanged w u m h.2
  give_at_apart p k (Refused Ended) apart h = unchanged w u m h.2
  give_at_apart p k (Refused NotOutgoing) apart h = unchanged w u m h.2
  give_at_apart p k (Refused Given) apart h = unchanged w u m h.2
  give_at_apart p k (Refused NotHeld) apart h = unchanged w u m h.2
  give_at_apart p k _ apart h = absurd h

  loaded : (x : ChunkValue) → (m ≡ Part x.dest → ⊥) → SameWorld u (after_load w x) → Undisturbed w u m
  loaded x apart same =
      agreed w u (after_load w x) m same
      (record {
        told = told_apart w m (Part x.dest) _ apart;
        part = λ p is. let other : (p == x.dest) ≡ false = ne_eqb p x.dest (λ e. apart (is ∙ ap Part e)) in record {
          held = λ k. still_or_one (w.held p k) (p == x.dest) (span_has x.span k && not (w.loaded x.number x.dest k)) other;
          closed = λ n. refl;
          given = λ n k. refl;
          loaded = λ n k. still_or (w.loaded n p k) (n == x.number) (p == x.dest) (span_has x.span k) other;
        };
        lead = λ is. record { old = λ n. refl; new = λ n. refl; last = refl; opened = λ n. refl; parts = refl };
        first = refl;
        routers = refl;
        parts = stay w.parts;
        chunks = stay w.chunks;
        messages = stay w.messages;
      })

  load_apart : (i : ℕ) (r : Answer) → (IsAt w (Load i) m → ⊥) → LoadStep w i r u → Undisturbed w u m
  load_apart i (Loaded report) apart h = loaded h.0 (λ is. apart (h.0, h.1.chunk, is)) h.5
  load_apart i Again apart h = unchanged w u m h.1
  load_apart i (Refused NoSuch) apart h = unchanged w u m h.1
  load_apart i (Refused NotOpen) apart h = unchanged w u m h.1
  load_apart i (Refused Stranger) apart h = unchanged w u m h.1
  load_apart i _ apart h = absurd h

  -- ---- completions, messages and questions

  finish_apart : (p s : ℕ) (r : Answer) → (m ≡ Part p → ⊥) → FinishStep w p s r u → Undisturbed w u m
  finish_apart p s (Finished report) apart h = told w u m (Part p) _ apart h.1.5
  finish_apart p s (Refused NoSuch) apart h = unchanged w u m h.1
  finish_apart p s (Refused NotOpen) apart h = unchanged w u m h.2
  finish_apart p s (Refused (NotAll span)) apart h = unchanged w u m h.2
  finish_apart p s (Refused NothingDue) apart h = unchanged w u m h.2
  finish_apart p s _ apart h = absurd h

  send_apart : (node : Node) (r : Answer) → SendStep w node r u → Undisturbed w u m
  send_apart node (Sent index) h = sent w u m (w.facts node) h.2
  send_apart node (Refused NoSuch) h = unchanged w u m h.1
  send_apart node _ h = absurd h

  send_part_apart : (node : Node) (said : BoardValue) (r : Answer) → SendPartStep w node said r u → Undisturbed w u m
  send_part_apart node said (Sent index) h = sent w u m (queries_of said) h.3
  send_part_apart node said (Refused NoSuch) h = unchanged w u m h.1
  send_part_apart node said (Refused NotKnown) h = unchanged w u m h.2
  send_part_apart node said _ h = absurd h

  deliver_apart : (i : ℕ) (node : Node) (r : Answer) → (m ≡ node → ⊥) → DeliverStep w i node r u → Undisturbed w u m
  deliver_apart i node Delivered apart h = told w u m node h.1.0 apart h.1.2
  deliver_apart i node (Refused NoSuch) apart h = unchanged w u m h.1
  deliver_apart i node _ apart h = absurd h

  route_apart : (x k : ℕ) (r : Answer) → RouteStep w x k r u → Undisturbed w u m
  route_apart x k (Routed p) h = unchanged w u m h.2
  route_apart x k (Refused NoSuch) h = unchanged w u m h.1
  route_apart x k _ h = absurd h

  serve_apart : (p k after : ℕ) (r : Answer) → ServeStep w p k after r u → Undisturbed w u m
  serve_apart p k after (Served reply) h = unchanged w u m h.2
  serve_apart p k after (Refused NoSuch) h = unchanged w u m h.1
  serve_apart p k after _ h = absurd h

pub nodes_are_apart : NodesAreApart
nodes_are_apart w u OpenNext a m first h apart = open_apart w u m apart a h
nodes_are_apart w u (Begin plan) a m first h apart = begin_apart w u m apart plan a first h
nodes_are_apart w u (BeginFrom old new) a m first h apart = begin_from_apart w u m apart old new a first h
nodes_are_apart w u (Close p) a m first h apart = close_apart w u m p a apart h
nodes_are_apart w u (Give p most) a m first h apart = give_apart w u m p most a apart h
nodes_are_apart w u (GiveAt p k) a m first h apart = give_at_apart w u m p k a apart h
nodes_are_apart w u (Load i) a m first h apart = load_apart w u m i a apart h
nodes_are_apart w u (Finish p s) a m first h apart = finish_apart w u m p s a apart h
nodes_are_apart w u (Send node) a m first h apart = send_apart w u m node a h
nodes_are_apart w u (SendPart node said) a m first h apart = send_part_apart w u m node said a h
nodes_are_apart w u (Deliver i node) a m first h apart = deliver_apart w u m i node a apart h
nodes_are_apart w u (Route x k) a m first h apart = route_apart w u m x k a h
nodes_are_apart w u (Serve p k after) a m first h apart = serve_apart w u m p k after a h
