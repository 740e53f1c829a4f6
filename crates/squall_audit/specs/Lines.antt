-- What the logs of nodes say, and what each line makes of its node.
use Rattle.std.specs.Prelude.{◌≡◌, ℕ, ◌+◌, ◌==◌, ◌&&◌, ◌||◌, not, Bool, false, List, [], ◌∷◌, ◌++◌, Some, if◌then◌else◌}
use Rattle.std.specs.List.{filter, list_any, range_with_len, slice_get}
use Rattle.squall_key.specs.Keys.{part_limit}
use Rattle.squall_span.specs.Spans.{span_has}
use Rattle.squall_plan.specs.declared.range.PlanRange.{PlanRange}
use Rattle.squall_plan.specs.Ranges.{names}
use Rattle.squall_report.specs.declared.report.ReportKind.TheVariants.{Done}
use Rattle.squall_report.specs.Issues.{plan_pair}
use Rattle.squall_report.specs.Cells.{place_at}
use Rattle.squall_report.specs.Queries.{Queries, joined_queries, loaded_queries, done_queries, opened_queries, issued_queries}
use Rattle.squall_board.specs.BoardQueries.{queries_of}
use Rattle.squall_protocol.specs.Chunks.{ChunkValue}
use Rattle.squall_protocol.specs.declared.event.Node.{Node}
use Rattle.squall_protocol.specs.declared.event.Node.TheVariants.{Leader, Part, Router}
use Rattle.squall_protocol.specs.declared.event.Event.{Event}
use Rattle.squall_protocol.specs.declared.event.Event.TheVariants.{OpenNext, Begin, BeginFrom, Close, Give, GiveAt, Load, Finish, Send, SendPart, Deliver}
use Rattle.squall_protocol.specs.declared.answer.Answer.{Answer}
use Rattle.squall_protocol.specs.declared.answer.Answer.TheVariants.{Opened, Begun, Closed, Gave, Loaded, Finished, Sent, Refused}
use Rattle.squall_protocol.specs.declared.answer.Refusal.TheVariants.{NoSuch, Running}
use Rattle.squall_protocol.specs.Worlds.{WorldValue, same_node}
use Rattle.squall_protocol.specs.Steps.{Step}
use Rattle.squall_protocol.specs.Promises.{IsReached}
use Rattle.squall_audit.specs.Apart.{IsAt}

-- ---- lines

-- What a node did, with its answer. Chunks and messages are named by what is in them, since no node knows their indices.
pub data Line : Type 0 where
  Own : (e : Event) (a : Answer) → Line
  Gift : (e : Event) (x : ChunkValue) → Line
  Arrival : (x : ChunkValue) (a : Answer) → Line
  Saying : (message : Queries) → Line
  Hearing : (message : Queries) → Line

-- the line of an event that was so answered
abbrev pub IsLine : WorldValue → Event → Answer → Line → Type 0
IsLine w (Give p most) (Gave i x) l = l ≡ Gift (Give p most) x
IsLine w (GiveAt p k) (Gave i x) l = l ≡ Gift (GiveAt p k) x
IsLine w (Load i) a l = (x : ChunkValue) × (slice_get w.chunks i ≡ Some x) × (l ≡ Arrival x a)
IsLine w (Send node) a l = l ≡ Saying (w.facts node)
IsLine w (SendPart node said) (Sent i) l = l ≡ Saying (queries_of said)
IsLine w (Deliver i node) a l = (message : Queries) × (slice_get w.messages i ≡ Some message) × (l ≡ Hearing message)
IsLine w e a l = l ≡ Own e a

-- The answer says that something is not so yet, which is for other nodes to change: what the event names is not there, or a key lies
-- elsewhere than in the plan from which a course is to begin. A node that asks too early asks again, so such answers have no line.
abbrev pub IsNotYet : Event → Answer → Type 0
IsNotYet e (Refused NoSuch) = Unit {0}
IsNotYet (BeginFrom old new) (Refused Running) = Unit {0}
IsNotYet e a = ⊥

-- the node does what the line says
pub record Happens (w : WorldValue) (m : Node) (l : Line) (v : WorldValue) : Type 0 where
  pub event : Event
  pub answer : Answer
  pub step : Step w event answer v
  pub there : IsNotYet event answer → ⊥
  pub here : IsAt w event m
  pub line : IsLine w event answer l

-- ---- runs of lines

-- each node does what these lines say, one after another, and that is the world after them
abbrev pub Trace : WorldValue → List (Node × Line) → WorldValue → Type 0
Trace w [] u = u ≡ w
Trace w (t ∷ ts) u = (v : WorldValue) × Happens w t.0 t.1 v × Trace v ts u

-- the lines of one node
abbrev pub lines_at : Node → List (Node × Line) → List Line
lines_at m [] = []
lines_at m (t ∷ ts) = if same_node m t.0 then t.1 ∷ lines_at m ts else lines_at m ts

-- ---- views

-- all that decides what a node may do next, but for what is there
pub record View : Type 0 where
  pub told : Queries
  pub held : ℕ → Bool
  pub closed : ℕ → Bool
  pub given : ℕ → ℕ → Bool
  pub loaded : ℕ → ℕ → Bool
  pub old : ℕ → List PlanRange
  pub new : ℕ → List PlanRange
  pub last : ℕ
  pub opened : ℕ → ℕ
  pub parts : List ℕ

-- the view of a node of the world
abbrev pub view : Node → WorldValue → View
view Leader w =
    record {
      told = w.facts Leader;
      held = λ k. false;
      closed = λ n. false;
      given = λ n k. false;
      loaded = λ n k. false;
      old = w.old;
      new = w.new;
      last = w.last;
      opened = w.opened;
      parts = w.parts;
    }
view (Part p) w =
    record {
      told = w.facts (Part p);
      held = λ k. w.held p k;
      closed = λ n. w.closed n p;
      given = λ n k. w.given n p k;
      loaded = λ n k. w.loaded n p k;
      old = λ n. [];
      new = λ n. [];
      last = 0;
      opened = λ n. 0;
      parts = [];
    }
view (Router r) w =
    record {
      told = w.facts (Router r);
      held = λ k. false;
      closed = λ n. false;
      given = λ n k. false;
      loaded = λ n k. false;
      old = λ n. [];
      new = λ n. [];
      last = 0;
      opened = λ n. 0;
      parts = [];
    }

-- the node was told more
abbrev pub tell : View → Queries → View
tell V more = record V { told = joined_queries V.told more }

-- another course begins, from one plan to another
abbrev pub begun : List PlanRange → List PlanRange → View → View
begun old new V =
    record V {
      told = joined_queries V.told (issued_queries (V.last + 1) (plan_pair old new));
      old = λ n. if n == V.last + 1 then old else V.old n;
      new = λ n. if n == V.last + 1 then new else V.new n;
      last = V.last + 1;
      opened = λ n. if n == V.last + 1 then 0 else V.opened n;
      parts = V.parts ++ filter (λ p. names new p && not (list_any (λ q. q == p) V.parts)) (range_with_len 0 part_limit);
    }

-- what a line makes of its node
abbrev pub after_line : Line → View → View
after_line (Own OpenNext (Opened s)) V =
    record V { told = joined_queries V.told (opened_queries V.last (V.opened V.last)); opened = λ n. if n == V.last then V.opened n + 1 else V.opened n }
after_line (Own (Begin plan) (Begun n parts)) V = begun (V.new V.last) plan V
after_line (Own (BeginFrom old new) (Begun n parts)) V = begun old new V
after_line (Own (Close p) (Closed n)) V = record V { closed = λ m. V.closed m || (m == n) }
after_line (Own (Finish p s) (Finished (Done n t q))) V = tell V (done_queries (place_at n s p))
after_line (Gift e x) V =
    record V { held = λ k. V.held k && not (span_has x.span k); given = λ n k. V.given n k || ((n == x.number) && span_has x.span k) }
after_line (Arrival x (Loaded report)) V =
    record V {
      told = joined_queries V.told (loaded_queries (place_at x.number x.sub x.dest) (span_has x.span));
      held = λ k. V.held k || (span_has x.span k && not (V.loaded x.number k));
      loaded = λ n k. V.loaded n k || ((n == x.number) && span_has x.span k);
    }
after_line (Hearing message) V = tell V message
after_line l V = V

-- what lines make of their node, one after another
abbrev pub after_lines : List Line → View → View
after_lines [] V = V
after_lines (l ∷ ls) V = after_lines ls (after_line l V)

-- what a node knows and keeps after a run follows from its own lines
abbrev pub LogsTell : Type 0
LogsTell = (s u : WorldValue) (lines : List (Node × Line)) (m : Node) → IsReached s → Trace s lines u → view m u ≡ after_lines (lines_at m lines) (view m s)
