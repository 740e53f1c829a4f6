-- What may happen in a world: to each event the answers that may be given, and the world after each. A refusal changes nothing. No other
-- answer is given.
use Rattle.std.specs.Prelude.{◌≡◌, ◌≢◌, ℕ, ◌+◌, ◌<◌, ◌≤◌, ◌==◌, ◌&&◌, ◌||◌, ◌⊎◌, not, true, false, List, [], ◌∷◌, ◌++◌, length, Some, None, if◌then◌else◌}
use Rattle.std.specs.List.{filter, range_with_len, slice_get}
use Rattle.squall_key.specs.Keys.{top, part_limit}
use Rattle.squall_span.specs.Spans.{span_has, interval}
use Rattle.squall_plan.specs.declared.range.PlanRange.{PlanRange}
use Rattle.squall_plan.specs.Ranges.{IsCanonical, AreRanges, names, owner_of}
use Rattle.squall_course.specs.Change.{Change}
use Rattle.squall_course.specs.Subplans.{subplan_count}
use Rattle.squall_course.specs.Moves.{is_incoming}
use Rattle.squall_report.specs.declared.report.ReportKind.TheVariants.{Done as DoneReport}
use Rattle.squall_report.specs.Issues.{plan_pair}
use Rattle.squall_report.specs.Cells.{CellPlace, place_at}
use Rattle.squall_report.specs.Queries.{Queries, joined_queries, loaded_queries, done_queries, opened_queries, issued_queries}
use Rattle.squall_join.specs.declared.flat.Flat.TheVariants.{Unknown}
use Rattle.squall_board.specs.Boards.{BoardValue}
use Rattle.squall_board.specs.BoardQueries.{queries_of}
use Rattle.squall_board.specs.CourseRoute.{IsCourseBy, IsRoutedBy}
use Rattle.squall_protocol.specs.Chunks.{ChunkValue, load_report}
use Rattle.squall_protocol.specs.Carried.{Carried}
use Rattle.squall_protocol.specs.Firsts.{AreFirst, IsRun}
use Rattle.squall_protocol.specs.Known.{last_number}
use Rattle.squall_protocol.specs.declared.event.Node.{Node}
use Rattle.squall_protocol.specs.declared.event.Node.TheVariants.{Leader, Part, Router}
use Rattle.squall_protocol.specs.declared.event.Event.{Event}
use Rattle.squall_protocol.specs.declared.event.Event.TheVariants.{OpenNext, Begin, BeginFrom, Close, Give, GiveAt, Load, Finish, Send, SendPart, Deliver, Route, Serve}
use Rattle.squall_protocol.specs.declared.answer.Answer.{Answer}
use Rattle.squall_protocol.specs.declared.answer.Answer.TheVariants.{Opened, Begun, Closed, Gave, Loaded, Again, Finished, Sent, Delivered, Routed, Served, Refused}
use Rattle.squall_protocol.specs.declared.answer.Refusal.TheVariants.{NoSuch, NotDone, NoMore, Running, NoNumber, NotOpen, Ended, NothingLeft, ZeroMax, NotOutgoing, Given, NotHeld, Stranger, NotAll, NothingDue, NotKnown}
use Rattle.squall_protocol.specs.Worlds.{WorldValue, first_course, last_course, same_node, is_part, is_node, SameWorld}
use Rattle.squall_protocol.specs.Knowledge.{part_in, PartQueries, Knows, IsCurrent, NoneOpen, IsClosed, goes_out, is_left, comes_in, is_missing, Serves}

-- ---- what a node is told

-- the node was told more, and no other was
abbrev pub told_to : WorldValue → Node → Queries → Node → Queries
told_to w node more m = if same_node m node then joined_queries (w.facts m) more else w.facts m

abbrev pub after_told : WorldValue → Node → Queries → WorldValue
after_told w node more = record w { facts = told_to w node more }

-- ---- the leader

-- keys come in to the partition in the sub-plan opened last, and the leader was not told that it has all
pub record IsWanting (w : WorldValue) (s q : ℕ) : Type 0 where
  pub last : s + 1 ≡ w.opened w.last
  pub due : (k : ℕ) × (is_incoming (last_course w).old (last_course w).new s q k ≡ true)
  pub waiting : (w.facts Leader).done (place_at w.last s q) ≡ false

-- the leader waits for no partition
abbrev pub NoneWanting : WorldValue → Type 0
NoneWanting w = (s q : ℕ) → IsWanting w s q → ⊥

-- how many sub-plans the course begun last has
abbrev pub last_count : WorldValue → ℕ
last_count w = subplan_count (last_course w).old (last_course w).new

-- all of them are opened, and the leader waits for no partition
abbrev pub IsOver : WorldValue → Type 0
IsOver w = (w.opened w.last ≡ last_count w) × NoneWanting w

abbrev pub after_open : WorldValue → WorldValue
after_open w = record w { opened = λ n. if n == w.last then w.opened n + 1 else w.opened n; facts = told_to w Leader (opened_queries w.last (w.opened w.last)) }

-- it opens the next sub-plan of the course begun last, once all partitions that receive keys in the one before have reported
abbrev pub OpenStep : WorldValue → Answer → WorldValue → Type 0
OpenStep w (Opened s) v = (s ≡ w.opened w.last) × NoneWanting w × (w.opened w.last ≢ last_count w) × SameWorld v (after_open w)
OpenStep w (Refused (NotDone s q)) v = IsWanting w s q × ((p : ℕ) → p < q → IsWanting w s p → ⊥) × SameWorld v w
OpenStep w (Refused NoMore) v = IsOver w × SameWorld v w
OpenStep w _ v = ⊥

-- what a plan is: canonical, of ranges with keys and of partitions that there can be
pub record IsPlan (plan : List PlanRange) : Type 0 where
  pub canonical : IsCanonical plan
  pub ranges : AreRanges plan

-- the partitions that a plan names and that are not there yet, in rising number
abbrev pub new_parts : WorldValue → List PlanRange → List ℕ
new_parts w plan = filter (λ p. names plan p && not (is_part w p)) (range_with_len 0 part_limit)

abbrev pub after_begin : WorldValue → List PlanRange → List PlanRange → WorldValue
after_begin w old new =
    record w {
      old = λ n. if n == w.last + 1 then old else w.old n;
      new = λ n. if n == w.last + 1 then new else w.new n;
      last = w.last + 1;
      opened = λ n. if n == w.last + 1 then 0 else w.opened n;
      parts = w.parts ++ new_parts w new;
      facts = told_to w Leader (issued_queries (w.last + 1) (plan_pair old new));
    }

-- it begins a course from the newest plan to another, once the one before is over; partitions come with the plans that first name them
abbrev pub BeginStep : WorldValue → List PlanRange → Answer → WorldValue → Type 0
BeginStep w plan (Begun n parts) v =
    IsOver w × (w.last < last_number) × IsPlan plan × (n ≡ w.last + 1) × (parts ≡ length (after_begin w (w.new w.last) plan).parts) × SameWorld v (after_begin w (w.new w.last) plan)
BeginStep w plan (Refused Running) v = (IsOver w → ⊥) × SameWorld v w
BeginStep w plan (Refused NoNumber) v = IsOver w × (w.last ≡ last_number) × SameWorld v w
BeginStep w plan _ v = ⊥

-- ---- an early end

-- the course of the number leaves the key at the partition: its new one, if the key rests or is loaded there, or its old one, if that
-- has not given the key and gives no more in the course. Once true this stays true, so partitions may be asked one after another
abbrev pub LeavesAt : WorldValue → ℕ → ℕ → ℕ → Type 0
LeavesAt w n k p =
    ((p ≡ owner_of (w.new n) k) × (owner_of (w.old n) k ≢ owner_of (w.new n) k → w.loaded n p k ≡ true))
    ⊎ ((p ≡ owner_of (w.old n) k) × (owner_of (w.old n) k ≢ owner_of (w.new n) k) × (w.given n p k ≡ false) × (w.closed n p ≡ true))

-- the plan has each key where the course begun last leaves it
abbrev pub IsWhereLeft : WorldValue → List PlanRange → Type 0
IsWhereLeft w old = (k : ℕ) → k < top → LeavesAt w w.last k (owner_of old k)

-- the partition holds each key that the plan has at it, and gives no more in the course begun last if such a key moves by it. This is
-- what a partition finds out by itself
pub record HoldsOwn (w : WorldValue) (old : List PlanRange) (p : ℕ) : Type 0 where
  pub held : (k : ℕ) → k < top → owner_of old k ≡ p → w.held p k ≡ true
  pub closed : (k : ℕ) → k < top → owner_of old k ≡ p → owner_of (w.old w.last) k ≢ owner_of (w.new w.last) k → owner_of (w.old w.last) k ≡ p → w.closed w.last p ≡ true

abbrev pub after_close : WorldValue → ℕ → ℕ → WorldValue
after_close w n p = record w { closed = λ m q. w.closed m q || ((m == n) && (q == p)) }

-- a partition gives no more in the newest course that it knows
abbrev pub CloseStep : WorldValue → ℕ → Answer → WorldValue → Type 0
CloseStep w p (Closed n) v = (is_part w p ≡ true) × ((c : Change) × IsCourseBy (first_course w) (w.facts (Part p)) c × (n ≡ c.number) × SameWorld v (after_close w c.number p))
CloseStep w p (Refused NoSuch) v = (is_part w p ≡ false) × SameWorld v w
CloseStep w p _ v = ⊥

-- the leader begins a course from a plan that has each key where the course begun last leaves it, whether or not that is over
abbrev pub BeginFromStep : WorldValue → List PlanRange → List PlanRange → Answer → WorldValue → Type 0
BeginFromStep w old new (Begun n parts) v =
    IsWhereLeft w old × (w.last < last_number) × IsPlan old × IsPlan new × (n ≡ w.last + 1) × (parts ≡ length (after_begin w old new).parts) × SameWorld v (after_begin w old new)
BeginFromStep w old new (Refused Running) v = (IsWhereLeft w old → ⊥) × SameWorld v w
BeginFromStep w old new (Refused NoNumber) v = IsWhereLeft w old × (w.last ≡ last_number) × SameWorld v w
BeginFromStep w old new _ v = ⊥

-- ---- gifts

-- the chunk is of the course, in its sub-plan, from the partition, to which each of its keys goes
pub record IsGift (p : PartQueries) (c : Change) (s : ℕ) (x : ChunkValue) : Type 0 where
  pub number : x.number ≡ c.number
  pub sub_plan : x.sub ≡ s
  pub source : x.source ≡ p.id
  pub carried : Carried c x

-- the source holds the keys no longer, it gave them, and the chunk is on its way
abbrev pub after_give : WorldValue → ChunkValue → WorldValue
after_give w x =
    record w {
      held = λ p k. w.held p k && not ((p == x.source) && span_has x.span k);
      given = λ n p k. w.given n p k || ((n == x.number) && ((p == x.source) && span_has x.span k));
      chunks = w.chunks ++ x ∷ [];
    }

-- a partition gives the first of those keys that go out in the sub-plan opened last and that it still holds, at most `most` of
-- them
abbrev pub GiveStep : WorldValue → ℕ → ℕ → Answer → WorldValue → Type 0
GiveStep w p most (Gave index x) v =
    (is_part w p ≡ true) × (index ≡ length w.chunks)
    × ((c : Change) × (s : ℕ) × IsCurrent (part_in w p) c s × AreFirst (is_left (part_in w p) c s) most x.span × IsGift (part_in w p) c s x) × SameWorld v (after_give w x)
GiveStep w p most (Refused NoSuch) v = (is_part w p ≡ false) × SameWorld v w
GiveStep w p most (Refused NotOpen) v = (is_part w p ≡ true) × NoneOpen (part_in w p) × SameWorld v w
GiveStep w p most (Refused Ended) v = (is_part w p ≡ true) × IsClosed (part_in w p) × SameWorld v w
GiveStep w p most (Refused NothingLeft) v =
    (is_part w p ≡ true) × ((c : Change) × (s : ℕ) × IsCurrent (part_in w p) c s × ((k : ℕ) → is_left (part_in w p) c s k ≡ false)) × SameWorld v w
GiveStep w p most (Refused ZeroMax) v =
    (is_part w p ≡ true) × ((c : Change) × (s : ℕ) × IsCurrent (part_in w p) c s × ((k : ℕ) × (is_left (part_in w p) c s k ≡ true))) × (most ≡ 0) × SameWorld v w
GiveStep w p most _ v = ⊥

-- a partition gives one key
abbrev pub GiveAtStep : WorldValue → ℕ → ℕ → Answer → WorldValue → Type 0
GiveAtStep w p k (Gave index x) v =
    (is_part w p ≡ true) × (index ≡ length w.chunks)
    × ((c : Change) × (s : ℕ) × IsCurrent (part_in w p) c s × (goes_out (part_in w p) c s k ≡ true) × (w.given c.number p k ≡ false) × (w.held p k ≡ true)
    × (x.span ≡ interval k (k + 1)) × IsGift (part_in w p) c s x)
    × SameWorld v (after_give w x)
GiveAtStep w p k (Refused NoSuch) v = (is_part w p ≡ false) × SameWorld v w
GiveAtStep w p k (Refused NotOpen) v = (is_part w p ≡ true) × NoneOpen (part_in w p) × SameWorld v w
GiveAtStep w p k (Refused Ended) v = (is_part w p ≡ true) × IsClosed (part_in w p) × SameWorld v w
GiveAtStep w p k (Refused NotOutgoing) v =
    (is_part w p ≡ true) × ((c : Change) × (s : ℕ) × IsCurrent (part_in w p) c s × (goes_out (part_in w p) c s k ≡ false)) × SameWorld v w
GiveAtStep w p k (Refused Given) v =
    (is_part w p ≡ true) × ((c : Change) × (s : ℕ) × IsCurrent (part_in w p) c s × (goes_out (part_in w p) c s k ≡ true) × (w.given c.number p k ≡ true)) × SameWorld v w
GiveAtStep w p k (Refused NotHeld) v =
    (is_part w p ≡ true)
    × ((c : Change) × (s : ℕ) × IsCurrent (part_in w p) c s × (goes_out (part_in w p) c s k ≡ true) × (w.given c.number p k ≡ false) × (w.held p k ≡ false)) × SameWorld v w
GiveAtStep w p k _ v = ⊥

-- ---- loads

-- the chunk is the one of that index, and its destination is there
pub record IsArriving (w : WorldValue) (i : ℕ) (x : ChunkValue) : Type 0 where
  pub chunk : slice_get w.chunks i ≡ Some x
  pub dest : is_part w x.dest ≡ true

-- its destination knows the chunk's course, has its sub-plan opened under it, and the chunk fits that course
pub record MayLoad (w : WorldValue) (x : ChunkValue) : Type 0 where
  pub course : Change
  pub known : Knows (part_in w x.dest) x.number course
  pub opened : x.sub < (w.facts (Part x.dest)).opened x.number
  pub fits : Carried course x

-- the destination holds the keys that it had not loaded, it has loaded all, and reports the load of the whole chunk
abbrev pub after_load : WorldValue → ChunkValue → WorldValue
after_load w x =
    record w {
      held = λ p k. w.held p k || ((p == x.dest) && (span_has x.span k && not (w.loaded x.number x.dest k)));
      loaded = λ n p k. w.loaded n p k || ((n == x.number) && ((p == x.dest) && span_has x.span k));
      facts = told_to w (Part x.dest) (loaded_queries (place_at x.number x.sub x.dest) (span_has x.span));
    }

-- a chunk comes to its destination
abbrev pub LoadStep : WorldValue → ℕ → Answer → WorldValue → Type 0
LoadStep w i (Loaded report) v =
    ((x : ChunkValue) × IsArriving w i x × MayLoad w x × ((k : ℕ) × (span_has x.span k ≡ true) × (w.loaded x.number x.dest k ≡ false)) × (report ≡ load_report x) × SameWorld v (after_load w x))
LoadStep w i Again v = ((x : ChunkValue) × IsArriving w i x × MayLoad w x × ((k : ℕ) → span_has x.span k ≡ true → w.loaded x.number x.dest k ≡ true)) × SameWorld v w
LoadStep w i (Refused NoSuch) v = ((slice_get w.chunks i ≡ None) ⊎ ((x : ChunkValue) × (slice_get w.chunks i ≡ Some x) × (is_part w x.dest ≡ false))) × SameWorld v w
LoadStep w i (Refused NotOpen) v =
    ((x : ChunkValue) × IsArriving w i x × ((c : Change) × Knows (part_in w x.dest) x.number c) × ((w.facts (Part x.dest)).opened x.number ≤ x.sub)) × SameWorld v w
LoadStep w i (Refused Stranger) v =
    ((x : ChunkValue) × IsArriving w i x × (MayLoad w x → ⊥) × ((c : Change) → Knows (part_in w x.dest) x.number c → x.sub < (w.facts (Part x.dest)).opened x.number)) × SameWorld v w
LoadStep w i _ v = ⊥

-- ---- completions

-- the course is the newest that the partition knows, and the sub-plan is opened under it there
abbrev pub IsOpenAt : WorldValue → ℕ → ℕ → Change → Type 0
IsOpenAt w p s c = IsCourseBy (first_course w) (w.facts (Part p)) c × (s < (w.facts (Part p)).opened c.number)

-- a partition reports that it has all keys of a sub-plan
abbrev pub FinishStep : WorldValue → ℕ → ℕ → Answer → WorldValue → Type 0
FinishStep w p s (Finished report) v =
    (is_part w p ≡ true)
    × ((c : Change) × IsOpenAt w p s c × ((k : ℕ) → is_missing (part_in w p) c s k ≡ false) × ((k : ℕ) × (comes_in (part_in w p) c s k ≡ true))
    × (report ≡ DoneReport c.number s p) × SameWorld v (after_told w (Part p) (done_queries (place_at c.number s p))))
FinishStep w p s (Refused NoSuch) v = (is_part w p ≡ false) × SameWorld v w
FinishStep w p s (Refused NotOpen) v =
    (is_part w p ≡ true) × ((c : Change) × IsCourseBy (first_course w) (w.facts (Part p)) c × ((w.facts (Part p)).opened c.number ≤ s)) × SameWorld v w
FinishStep w p s (Refused (NotAll span)) v = (is_part w p ≡ true) × ((c : Change) × IsOpenAt w p s c × IsRun (is_missing (part_in w p) c s) span) × SameWorld v w
FinishStep w p s (Refused NothingDue) v = (is_part w p ≡ true) × ((c : Change) × IsOpenAt w p s c × ((k : ℕ) → comes_in (part_in w p) c s k ≡ false)) × SameWorld v w
FinishStep w p s _ v = ⊥

-- ---- messages

-- the facts of the node become the next message
abbrev pub SendStep : WorldValue → Node → Answer → WorldValue → Type 0
SendStep w node (Sent index) v = (is_node w node ≡ true) × (index ≡ length w.messages) × SameWorld v (record w { messages = w.messages ++ w.facts node ∷ [] })
SendStep w node (Refused NoSuch) v = (is_node w node ≡ false) × SameWorld v w
SendStep w node _ v = ⊥

-- One tells nothing but what the other tells: a single report of it, say, or a delta. Under a number it issues what the other does, or
-- nothing.
pub record IsPartOf (q f : Queries) : Type 0 where
  pub loaded : (c : CellPlace) (k : ℕ) → q.loaded c k ≡ true → f.loaded c k ≡ true
  pub done : (c : CellPlace) → q.done c ≡ true → f.done c ≡ true
  pub opened : (n : ℕ) → q.opened n ≤ f.opened n
  pub issued : (n : ℕ) → (q.issued n ≡ Unknown) ⊎ (q.issued n ≡ f.issued n)

-- a node sends the facts of a board, if they are a part of its own facts: they become the next message
abbrev pub SendPartStep : WorldValue → Node → BoardValue → Answer → WorldValue → Type 0
SendPartStep w node said (Sent index) v =
    (is_node w node ≡ true) × IsPartOf (queries_of said) (w.facts node) × (index ≡ length w.messages) × SameWorld v (record w { messages = w.messages ++ queries_of said ∷ [] })
SendPartStep w node said (Refused NoSuch) v = (is_node w node ≡ false) × SameWorld v w
SendPartStep w node said (Refused NotKnown) v = (is_node w node ≡ true) × (IsPartOf (queries_of said) (w.facts node) → ⊥) × SameWorld v w
SendPartStep w node said _ v = ⊥

-- a message comes to a node: any number of times, to any node, or never
abbrev pub DeliverStep : WorldValue → ℕ → Node → Answer → WorldValue → Type 0
DeliverStep w i node Delivered v = (is_node w node ≡ true) × ((message : Queries) × (slice_get w.messages i ≡ Some message) × SameWorld v (after_told w node message))
DeliverStep w i node (Refused NoSuch) v = ((is_node w node ≡ false) ⊎ (slice_get w.messages i ≡ None)) × SameWorld v w
DeliverStep w i node _ v = ⊥

-- ---- questions

-- a router sends a key to a partition
abbrev pub RouteStep : WorldValue → ℕ → ℕ → Answer → WorldValue → Type 0
RouteStep w r k (Routed p) v = (is_node w (Router r) ≡ true) × IsRoutedBy (first_course w) (w.facts (Router r)) k p × SameWorld v w
RouteStep w r k (Refused NoSuch) v = (is_node w (Router r) ≡ false) × SameWorld v w
RouteStep w r k _ v = ⊥

-- a partition replies when it is asked for a key, with the number of the last move that was followed
abbrev pub ServeStep : WorldValue → ℕ → ℕ → ℕ → Answer → WorldValue → Type 0
ServeStep w p k after (Served reply) v = (is_part w p ≡ true) × Serves (part_in w p) k after reply × SameWorld v w
ServeStep w p k after (Refused NoSuch) v = (is_part w p ≡ false) × SameWorld v w
ServeStep w p k after _ v = ⊥

-- ---- runs

abbrev pub Step : WorldValue → Event → Answer → WorldValue → Type 0
Step w OpenNext r v = OpenStep w r v
Step w (Begin plan) r v = BeginStep w plan r v
Step w (BeginFrom old new) r v = BeginFromStep w old new r v
Step w (Close p) r v = CloseStep w p r v
Step w (Give p most) r v = GiveStep w p most r v
Step w (GiveAt p k) r v = GiveAtStep w p k r v
Step w (Load i) r v = LoadStep w i r v
Step w (Finish p s) r v = FinishStep w p s r v
Step w (Send node) r v = SendStep w node r v
Step w (SendPart node said) r v = SendPartStep w node said r v
Step w (Deliver i node) r v = DeliverStep w i node r v
Step w (Route x k) r v = RouteStep w x k r v
Step w (Serve p k after) r v = ServeStep w p k after r v

-- these answers may be given to these events, one after another, and that is the world after them
abbrev pub Run : WorldValue → List Event → List Answer → WorldValue → Type 0
Run w [] [] u = SameWorld u w
Run w (e ∷ es) (r ∷ rs) u = (v : WorldValue) × Step w e r v × Run v es rs u
Run w [] (r ∷ rs) u = ⊥
Run w (e ∷ es) [] u = ⊥
