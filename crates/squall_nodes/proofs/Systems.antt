-- Beside each system there is a world.
use Rattle.std.proofs.Common.{◌≡◌, ℕ, zero, suc, ◌<◌, ◌==◌, nat_lt, Bool, true, false, cond, List, [], ◌∷◌, ◌++◌, length, Result, Ok, Err, Option, None, Some, refl, sym, ap, subst, ◌∙◌, arith, inl, inr}
use Rattle.std.specs.Prelude.{◌||◌, ◌⊎◌, map}
use Rattle.std.specs.List.{slice_get, AllByRecursion}
use Rattle.std.proofs.lemmas.Bool.{false≢true, or_cases}
use Rattle.std.proofs.lemmas.Option.{same_Some, none-some}
use Rattle.squall_key.specs.Keys.{top, part_limit}
use Rattle.squall_plan.specs.declared.range.PlanRange.{PlanRange}
use Rattle.squall_plan.specs.Ranges.{names, owner_of}
use Rattle.squall_plan.proofs.Named.{named_low}
use Rattle.squall_course.specs.Change.{Change, ArePlans}
use Rattle.squall_course.proofs.Rising.{in_filter}
use Rattle.squall_join.specs.declared.flat.Flat.TheVariants.{One}
use Rattle.squall_report.specs.Issues.{plan_pair}
use Rattle.squall_report.specs.Queries.{Queries, SameQueries, no_queries, joined_queries, issued_queries}
use Rattle.squall_report.specs.QueriesLaws.{same_queries}
use Rattle.squall_board.specs.Boards.{BoardValue, IsBoard, empty_board, board_join, report_board}
use Rattle.squall_board.specs.BoardLaws.{join_is, empty_is, issue_board_is}
use Rattle.squall_board.specs.BoardQueries.{queries_of}
use Rattle.squall_protocol.specs.Chunks.{ChunkValue}
use Rattle.squall_protocol.specs.declared.event.Node.{Node}
use Rattle.squall_protocol.specs.declared.event.Node.TheVariants.{Leader, Part, Router}
use Rattle.squall_protocol.specs.declared.event.Event.{Event}
use Rattle.squall_protocol.specs.declared.event.Event.TheVariants.{OpenNext, Begin, BeginFrom, Close, Give, GiveAt, Load as LoadEvent, Finish, SendPart, Deliver}
use Rattle.squall_protocol.specs.declared.answer.Answer.{Answer}
use Rattle.squall_protocol.specs.declared.answer.Answer.TheVariants.{Closed, Sent, Delivered}
use Rattle.squall_protocol.specs.Worlds.{WorldValue, first_course, last_course, is_node, start}
use Rattle.squall_protocol.specs.Steps.{IsPlan, IsPartOf, IsWhereLeft, Step, Run}
use Rattle.squall_protocol.specs.Promises.{IsReached}
use Rattle.squall_protocol.specs.WorldLaws.{same_as_itself, reached_start, reached_step, run_more}
use Rattle.squall_protocol.proofs.ProtocolLaws.{own_left, part_first, names_owner}
use Rattle.squall_part.specs.Parts.{PartValue, IsPart, course_of_part, new_part}
use Rattle.squall_part.specs.Giving.{after_close}
use Rattle.squall_replay.specs.Calls.{IsSamePart}
use Rattle.squall_leader.specs.declared.fault.LeaderFault.{LeaderFault}
use Rattle.squall_leader.specs.Leaders.{LeaderValue, IsLeader, new_leader, after_begin, issue_report}
use Rattle.squall_router.specs.Routers.{RouterValue, router_with}
use Rattle.squall_nodes.specs.Standing.{StandsForPart, StandsForLeader, StandsForRouter, IsAbsent, Becomes, PartStands, LeaderStands, RouterStands}
use Rattle.squall_nodes.specs.PartCalls.{IsMessageOf, with_chunk, give_answer, load_answer, finish_answer}
use Rattle.squall_nodes.specs.LeaderCalls.{BegunStands, AfterBegin, open_answer, begin_answer}
use Rattle.squall_nodes.specs.Systems.{SystemValue, first_change, first_system, put_at, with_part, with_leader, with_router, with_message, come, come_to, with_course, HasOwn, IsLeftBy, Happens, Comes, IsSystem, IsRun, StandsForSystem, SystemsAreWorlds}
use Rattle.squall_nodes.specs.Systems.Happens.{gives, gives_at, loads, closes, finishes, part_hears, part_says, part_restarts, opens, begins, begins_from, leader_hears, leader_says, router_hears, router_says}
use Rattle.squall_nodes.specs.Systems.Comes.{still, next}
use Rattle.squall_nodes.proofs.Numbers.{eq_same}
use Rattle.squall_nodes.proofs.Agree.{same_by, same_self, queries_report}
use Rattle.squall_nodes.proofs.Gifts.{gives_by_step, gives_at_by_step, closes_by_step}
use Rattle.squall_nodes.proofs.Loads.{loads_by_step, finishes_by_step, absorbs_by_step}
use Rattle.squall_nodes.proofs.Leads.{opens_by_step, leader_absorbs_by_step}
use Rattle.squall_nodes.proofs.Begins.{begins_by_step, begins_from_by_step, none_closed, none_given, none_loaded, told_none}
use Rattle.squall_nodes.proofs.Routes.{router_absorbs_by_step}
use Rattle.squall_nodes.proofs.Owned.{owned, none_owned}
use Rattle.squall_nodes.proofs.Rebuilt.{rebuilt_stands}
use Rattle.squall_nodes.proofs.Made.{new_parts_are_parts, plans_are, first_systems_are_systems}

-- what holds of a system and the world beside it
pub record Beside (first : Change) (w : WorldValue) (s : SystemValue) : Type 0 where
  pub reached : IsReached w
  pub first_is : first_course w ≡ first
  pub plans : ArePlans first.old first.new
  pub stands : StandsForSystem w s
  pub system : IsSystem s

-- the world is as it was, or it took a step
abbrev pub Follows : WorldValue → WorldValue → Type 0
Follows w v = (v ≡ w) ⊎ ((event : Event) × (answer : Answer) × Step w event answer v)

-- some world that follows is beside it
abbrev pub HasNext : Change → WorldValue → SystemValue → Type 0
HasNext first w s = (v : WorldValue) × Follows w v × Beside first v s

came : (w : WorldValue) (event : Event) (answer : Option Answer) (After : WorldValue → Type 0) → IsReached w → Becomes w event answer After → (v : WorldValue) × IsReached v × After v × Follows w v
came w event None After reached b = (w, reached, b, inl refl)
came w event (Some answer) After reached (v, step, after) = (v, reached_step w v event answer reached step, after, inr (event, answer, step))

-- ---- lists, and values at numbers

get_map : {A B : Type 0} (f : A → B) (xs : List A) (i : ℕ) (x : A) → slice_get xs i ≡ Some x → slice_get (map f xs) i ≡ Some (f x)
get_map f [] i x e = absurd (none-some x e)
get_map f (y ∷ ys) zero x e = ap (λ o. Some (f o)) (same_Some y x e)
get_map f (y ∷ ys) (suc i) x e = get_map f ys i x e

map_append : {A B : Type 0} (f : A → B) (xs ys : List A) → map f (xs ++ ys) ≡ map f xs ++ map f ys
map_append f [] ys = refl
map_append f (x ∷ xs) ys = ap (λ l. f x ∷ l) (map_append f xs ys)

all_at : {A : Type 0} (P : A → Type 0) (xs : List A) (i : ℕ) (x : A) → AllByRecursion P xs → slice_get xs i ≡ Some x → P x
all_at P [] i x all e = absurd (none-some x e)
all_at P (y ∷ ys) zero x all e = subst P (same_Some y x e) all.0
all_at P (y ∷ ys) (suc i) x all e = all_at P ys i x all.1 e

all_with : {A : Type 0} (P : A → Type 0) (xs : List A) (x : A) → AllByRecursion P xs → P x → AllByRecursion P (xs ++ x ∷ [])
all_with P [] x all is = (is, tt)
all_with P (y ∷ ys) x all is = (all.0, all_with P ys x all.1 is)

pub put_some : {A : Type 0} (n : ℕ) (x : A) (xs : ℕ → Option A) (m : ℕ) (y : A) → put_at n x xs m ≡ Some y → ((m ≡ n) × (x ≡ y)) ⊎ (((m == n) ≡ false) × (xs m ≡ Some y))
put_some {A = A} n x xs m y e = by (m == n) refl e
  where
    by : (b : Bool) → (m == n) ≡ b → cond b (Some x) (xs m) ≡ Some y → ((m ≡ n) × (x ≡ y)) ⊎ (((m == n) ≡ false) × (xs m ≡ Some y))
    by true t e = inl (eq_same m n t, same_Some x y e)
    by false t e = inr (t, e)

put_none : {A : Type 0} (n : ℕ) (x : A) (xs : ℕ → Option A) (m : ℕ) → put_at n x xs m ≡ None → ((m == n) ≡ false) × (xs m ≡ None)
put_none {A = A} n x xs m e = by (m == n) refl e
  where
    by : (b : Bool) → (m == n) ≡ b → cond b (Some x) (xs m) ≡ None → ((m == n) ≡ false) × (xs m ≡ None)
    by true t e = absurd (none-some x (sym e))
    by false t e = (t, e)

-- ---- one node moved

pub part_moved : (first : Change) (w v : WorldValue) (s : SystemValue) (p : ℕ) (b : PartValue) (on_way chunks : List ChunkValue) → Beside first w s → IsPart b → on_way ≡ chunks → IsReached v → PartStands w p b on_way v → Beside first v (with_part s p b chunks)
part_moved first w v s p b on_way chunks beside is same reached moved = record {
  reached = reached;
  first_is = moved.others.first ∙ beside.first_is;
  plans = beside.plans;
  stands = record {
    leader = moved.others.leader s.leader refl beside.stands.leader;
    parts = parts;
    absent = λ q e. let o = put_none p b s.parts q e in moved.others.absent q o.0 (beside.stands.absent q o.1);
    routers = λ r x e. moved.others.routers r x refl (beside.stands.routers r x e);
    chunks = moved.chunks ∙ same;
    messages = moved.messages ∙ beside.stands.messages;
  };
  system = record { leader = beside.system.leader; parts = are_parts; routers = beside.system.routers; messages = beside.system.messages };
}
  where
    parts : (q : ℕ) (a : PartValue) → put_at p b s.parts q ≡ Some a → StandsForPart v q a
    parts q a e = elim (put_some p b s.parts q a e) [
      | inl here ↦ subst (λ n. StandsForPart v n a) (sym here.0) (subst (StandsForPart v p) here.1 moved.itself)
      | inr there ↦ moved.others.parts q a there.0 (beside.stands.parts q a there.1)
    ]

    are_parts : (q : ℕ) (a : PartValue) → put_at p b s.parts q ≡ Some a → IsPart a
    are_parts q a e = elim (put_some p b s.parts q a e) [
      | inl here ↦ subst IsPart here.1 is
      | inr there ↦ beside.system.parts q a there.1
    ]

leader_moved : (first : Change) (w v : WorldValue) (s : SystemValue) (m : LeaderValue) → Beside first w s → IsLeader m → IsReached v → LeaderStands w m v → Beside first v (with_leader s m)
leader_moved first w v s m beside is reached moved = record {
  reached = reached;
  first_is = moved.others.first ∙ beside.first_is;
  plans = beside.plans;
  stands = record {
    leader = moved.itself;
    parts = λ q a e. moved.others.parts q a refl (beside.stands.parts q a e);
    absent = λ q e. moved.others.absent q refl (beside.stands.absent q e);
    routers = λ r x e. moved.others.routers r x refl (beside.stands.routers r x e);
    chunks = moved.chunks ∙ beside.stands.chunks;
    messages = moved.messages ∙ beside.stands.messages;
  };
  system = record { leader = is; parts = beside.system.parts; routers = beside.system.routers; messages = beside.system.messages };
}

router_moved : (first : Change) (w v : WorldValue) (s : SystemValue) (r : ℕ) (y : RouterValue) → Beside first w s → IsBoard y.board → IsReached v → RouterStands w r y v → Beside first v (with_router s r y)
router_moved first w v s r y beside is reached moved = record {
  reached = reached;
  first_is = moved.others.first ∙ beside.first_is;
  plans = beside.plans;
  stands = record {
    leader = moved.others.leader s.leader refl beside.stands.leader;
    parts = λ q a e. moved.others.parts q a refl (beside.stands.parts q a e);
    absent = λ q e. moved.others.absent q refl (beside.stands.absent q e);
    routers = routers;
    chunks = moved.chunks ∙ beside.stands.chunks;
    messages = moved.messages ∙ beside.stands.messages;
  };
  system = record { leader = beside.system.leader; parts = beside.system.parts; routers = boards; messages = beside.system.messages };
}
  where
    routers : (q : ℕ) (x : RouterValue) → put_at r y s.routers q ≡ Some x → StandsForRouter v q x
    routers q x e = elim (put_some r y s.routers q x e) [
      | inl here ↦ subst (λ n. StandsForRouter v n x) (sym here.0) (subst (StandsForRouter v r) here.1 moved.itself)
      | inr there ↦ moved.others.routers q x there.0 (beside.stands.routers q x there.1)
    ]

    boards : (q : ℕ) (x : RouterValue) → put_at r y s.routers q ≡ Some x → IsBoard x.board
    boards q x e = elim (put_some r y s.routers q x e) [
      | inl here ↦ subst (λ (z : RouterValue). IsBoard z.board) here.1 is
      | inr there ↦ beside.system.routers q x there.1
    ]

-- ---- something was said

message_is : (w : WorldValue) (s : SystemValue) (i : ℕ) (said : BoardValue) → StandsForSystem w s → slice_get s.messages i ≡ Some said → IsMessageOf w i said
message_is w s i said stands e = (queries_of said, subst (λ ms. slice_get ms i ≡ Some (queries_of said)) (sym stands.messages) (get_map queries_of s.messages i said e), same_self (queries_of said))

abbrev sent : WorldValue → BoardValue → WorldValue
sent w said = record w { messages = w.messages ++ queries_of said ∷ [] }

-- a part of what a node's board tells is a part of what is seen of the node
part_seen : (said : BoardValue) (f : Queries) (board : BoardValue) → SameQueries f (queries_of board) → IsPartOf (queries_of said) (queries_of board) → IsPartOf (queries_of said) f
part_seen said f board same part = subst (IsPartOf (queries_of said)) (sym (same_queries f (queries_of board) same)) part

said_moved : (first : Change) (w : WorldValue) (s : SystemValue) (node : Node) (said : BoardValue) → Beside first w s → is_node w node ≡ true → IsPartOf (queries_of said) (w.facts node) → IsBoard said → HasNext first w (with_message s said)
said_moved first w s node said beside there part is = (
  sent w said,
  inr (SendPart node said, Sent (length w.messages), (there, part, refl, same_as_itself (sent w said))),
  record {
    reached = reached_step w (sent w said) (SendPart node said) (Sent (length w.messages)) beside.reached (there, part, refl, same_as_itself (sent w said));
    first_is = beside.first_is;
    plans = beside.plans;
    stands = record {
      leader = let l = beside.stands.leader in record { course = l.course; opened = l.opened; told = l.told };
      parts = λ p a e. let x = beside.stands.parts p a e in record { there = x.there; limit = x.limit; id = x.id; first = x.first; told = x.told; held = x.held; closed = x.closed; given = x.given; loaded = x.loaded };
      absent = λ p e. let x = beside.stands.absent p e in record { gone = x.gone; unnamed = x.unnamed; told = x.told; held = x.held; closed = x.closed; given = x.given; loaded = x.loaded };
      routers = λ r y e. let x = beside.stands.routers r y e in record { there = x.there; first = x.first; told = x.told };
      chunks = beside.stands.chunks;
      messages = ap (λ ms. ms ++ queries_of said ∷ []) beside.stands.messages ∙ sym (map_append queries_of s.messages (said ∷ []));
    };
    system = record { leader = beside.system.leader; parts = beside.system.parts; routers = beside.system.routers; messages = all_with IsBoard s.messages said beside.system.messages is };
  },
)

-- ---- a partition was rebuilt

-- the world stays as it is
rebuilt_moved : (w : WorldValue) (p : ℕ) (a c : PartValue) → IsSamePart a c → StandsForPart w p a → PartStands w p c w.chunks w
rebuilt_moved w p a c same x = record {
  itself = rebuilt_stands w p a c x same;
  others = record { parts = λ q b e y. y; leader = λ l e y. y; routers = λ r z e y. y; absent = λ q e y. y; first = refl };
  chunks = refl;
  messages = refl;
}

-- ---- a course was begun

-- who is there once it is begun
come_some : (o : Option PartValue) (named : Bool) (b a : PartValue) → come_to o named b ≡ Some a → (o ≡ Some a) ⊎ ((o ≡ None) × (named ≡ true) × (b ≡ a))
come_some (Some x) named b a e = inl e
come_some None true b a e = inr (refl, refl, same_Some b a e)
come_some None false b a e = absurd (none-some a e)

come_none : (o : Option PartValue) (named : Bool) (b : PartValue) → come_to o named b ≡ None → (o ≡ None) × (named ≡ false)
come_none (Some x) named b e = absurd (none-some x (sym e))
come_none None true b e = absurd (none-some b (sym e))
come_none None false b e = (refl, refl)

begun_moved : (first : Change) (w v : WorldValue) (s : SystemValue) (plan : List PlanRange) (m : LeaderValue) → Beside first w s → IsLeader m → IsReached v → BegunStands w plan m v
    → Beside first v (record s { leader = m; parts = come s.parts plan first })
begun_moved first w v s plan m beside is reached moved = record {
  reached = reached;
  first_is = moved.first ∙ beside.first_is;
  plans = beside.plans;
  stands = record {
    leader = moved.itself;
    parts = parts;
    absent = λ q e. let o = come_none (s.parts q) (names plan q) (new_part q first) e in moved.absent q (beside.stands.absent q o.0) o.1;
    routers = λ r x e. moved.routers r x (beside.stands.routers r x e);
    chunks = moved.chunks ∙ beside.stands.chunks;
    messages = moved.messages ∙ beside.stands.messages;
  };
  system = record { leader = is; parts = are_parts; routers = beside.system.routers; messages = beside.system.messages };
}
  where
    parts : (q : ℕ) (a : PartValue) → come s.parts plan first q ≡ Some a → StandsForPart v q a
    parts q a e = elim (come_some (s.parts q) (names plan q) (new_part q first) a e) [
      | inl old ↦ moved.parts q a (beside.stands.parts q a old)
      | inr new ↦ subst (StandsForPart v q) (ap (new_part q) beside.first_is ∙ new.2) (moved.new q (beside.stands.absent q new.0) new.1)
    ]

    are_parts : (q : ℕ) (a : PartValue) → come s.parts plan first q ≡ Some a → IsPart a
    are_parts q a e = elim (come_some (s.parts q) (names plan q) (new_part q first) a e) [
      | inl old ↦ beside.system.parts q a old
      | inr new ↦ subst IsPart new.2 (new_parts_are_parts q first beside.plans)
    ]

begin_moved : (first : Change) (w v : WorldValue) (s : SystemValue) (plan : List PlanRange) (m : LeaderValue) (r : Result Change LeaderFault) → Beside first w s → IsLeader m → IsReached v → AfterBegin w plan r m v
    → Beside first v (with_course s first plan m r)
begin_moved first w v s plan m (Ok c) beside is reached moved = begun_moved first w v s plan m beside is reached moved
begin_moved first w v s plan m (Err f) beside is reached moved = leader_moved first w v s m beside is reached moved

-- a plan that has each key where the leader's course leaves it in the system does so in the world
left_in_world : (first : Change) (w : WorldValue) (s : SystemValue) → Beside first w s → (old : List PlanRange) → IsPlan old → IsLeftBy s old → IsWhereLeft w old
left_in_world first w s b old old_is left = own_left w b.reached old (λ p. record {
  held = λ k key owner. let a = at p k key owner in (b.stands.parts p a.0 a.1).held k ∙ a.2.held k key owner;
  closed = λ k key owner moves source. let a = at p k key owner in (b.stands.parts p a.0 a.1).closed w.last ∙ a.2.closed k key owner moves source;
})
  where
    at : (p k : ℕ) → k < top → owner_of old k ≡ p → (a : PartValue) × (s.parts p ≡ Some a) × HasOwn (last_course w) a old p
    at p k key owner = left (last_course w) b.stands.leader.course p (subst (λ q. names old q ≡ true) owner (names_owner old k old_is key))

-- ---- whatever happens

pub goes_on : (first : Change) (w : WorldValue) (s t : SystemValue) → Beside first w s → Happens first s t → HasNext first w t
goes_on first w s _ b (gives p most a c r there is part) =
    let v = came w (Give p most) (give_answer (length w.chunks) r) (PartStands w p c (with_chunk w.chunks r)) b.reached (gives_by_step w p most a c r (b.stands.parts p a there) (b.system.parts p a there) is) in
    (v.0, v.3, part_moved first w v.0 s p c (with_chunk w.chunks r) (with_chunk s.chunks r) b part (ap (λ x. with_chunk x r) b.stands.chunks) v.1 v.2)
goes_on first w s _ b (gives_at p k a c r there is part) =
    let v = came w (GiveAt p k) (give_answer (length w.chunks) r) (PartStands w p c (with_chunk w.chunks r)) b.reached (gives_at_by_step w p k a c r (b.stands.parts p a there) (b.system.parts p a there) is) in
    (v.0, v.3, part_moved first w v.0 s p c (with_chunk w.chunks r) (with_chunk s.chunks r) b part (ap (λ x. with_chunk x r) b.stands.chunks) v.1 v.2)
goes_on first w s _ b (loads i x a c r chunk there is part) =
    let v = came w (LoadEvent i) (load_answer r) (PartStands w x.dest c w.chunks) b.reached (loads_by_step w i x a c r (b.stands.parts x.dest a there) (b.system.parts x.dest a there) (ap (λ l. slice_get l i) b.stands.chunks ∙ chunk) is) in
    (v.0, v.3, part_moved first w v.0 s x.dest c w.chunks s.chunks b part b.stands.chunks v.1 v.2)
goes_on first w s _ b (closes p a there part) =
    let v = came w (Close p) (Some (Closed (course_of_part a).number)) (PartStands w p (after_close a) w.chunks) b.reached (closes_by_step w p a (b.stands.parts p a there) (b.system.parts p a there)) in
    (v.0, v.3, part_moved first w v.0 s p (after_close a) w.chunks s.chunks b part b.stands.chunks v.1 v.2)
goes_on first w s _ b (finishes p sub a c r there is part) =
    let v = came w (Finish p sub) (finish_answer r) (PartStands w p c w.chunks) b.reached (finishes_by_step w p sub a c r (b.stands.parts p a there) (b.system.parts p a there) is) in
    (v.0, v.3, part_moved first w v.0 s p c w.chunks s.chunks b part b.stands.chunks v.1 v.2)
goes_on first w s _ b (part_hears p i a c said there message is part) =
    let v = came w (Deliver i (Part p)) (Some Delivered) (PartStands w p c w.chunks) b.reached (absorbs_by_step w p i a c said (b.stands.parts p a there) (b.system.parts p a there) (all_at IsBoard s.messages i said b.system.messages message) (message_is w s i said b.stands message) is) in
    (v.0, v.3, part_moved first w v.0 s p c w.chunks s.chunks b part b.stands.chunks v.1 v.2)
goes_on first w s _ b (part_says p a said there is part) =
    let x = b.stands.parts p a there in
    said_moved first w s (Part p) said b x.there (part_seen said (w.facts (Part p)) a.board x.told part) is
goes_on first w s _ b (part_restarts p a c there same part) =
    (w, inl refl, part_moved first w w s p c w.chunks s.chunks b part b.stands.chunks b.reached (rebuilt_moved w p a c same (b.stands.parts p a there)))
goes_on first w s _ b (opens m r is valid) =
    let v = came w OpenNext (open_answer r) (LeaderStands w m) b.reached (opens_by_step w s.leader m r b.stands.leader b.system.leader is) in
    (v.0, v.3, leader_moved first w v.0 s m b valid v.1 v.2)
goes_on first w s _ b (begins plan m r is valid) =
    let v = came w (Begin plan) (begin_answer w plan r) (AfterBegin w plan r m) b.reached (begins_by_step w plan s.leader m r b.stands.leader b.system.leader valid is) in
    (v.0, v.3, begin_moved first w v.0 s plan m r b valid v.1 v.2)
goes_on first w s _ b (begins_from old new m r left old_is is valid) =
    let where_left = left_in_world first w s b old old_is left in
    let v = came w (BeginFrom old new) (begin_answer w new r) (AfterBegin w new r m) b.reached (begins_from_by_step w old new s.leader m r b.stands.leader b.system.leader valid where_left is) in
    (v.0, v.3, begin_moved first w v.0 s new m r b valid v.1 v.2)
goes_on first w s _ b (leader_hears i said message valid) =
    let m = record s.leader { board = board_join s.leader.board said } in
    let v = came w (Deliver i Leader) (Some Delivered) (LeaderStands w m) b.reached (leader_absorbs_by_step w i s.leader said b.stands.leader b.system.leader (all_at IsBoard s.messages i said b.system.messages message) (message_is w s i said b.stands message)) in
    (v.0, v.3, leader_moved first w v.0 s m b valid v.1 v.2)
goes_on first w s _ b (leader_says said is part) = said_moved first w s Leader said b refl (part_seen said (w.facts Leader) s.leader.board b.stands.leader.told part) is
goes_on first w s _ b (router_hears r i x said there message) =
    let valid = all_at IsBoard s.messages i said b.system.messages message in
    let board = b.system.routers r x there in
    let y = router_with x.first (board_join x.board said) in
    let v = came w (Deliver i (Router r)) (Some Delivered) (RouterStands w r y) b.reached (router_absorbs_by_step w r i x said (b.stands.routers r x there) board valid (message_is w s i said b.stands message)) in
    (v.0, v.3, router_moved first w v.0 s r y b (join_is x.board said board valid) v.1 v.2)
goes_on first w s _ b (router_says r x said there is part) =
    let y = b.stands.routers r x there in
    said_moved first w s (Router r) said b y.there (part_seen said (w.facts (Router r)) x.board y.told part) is

-- ---- at first

module _ (old new : List PlanRange) (count : ℕ) (old_is : IsPlan old) (new_is : IsPlan new) where
  abbrev first : Change
  first = first_change old new

  issue_is : IsBoard (report_board (issue_report first))
  issue_is = issue_board_is 1 (One (plan_pair old new)) (omega arith)

  issued : SameQueries (queries_of (after_begin (new_leader old 0) first).board) (issued_queries 1 (plan_pair old new))
  issued =
      let e : queries_of (after_begin (new_leader old 0) first).board ≡ joined_queries (queries_of empty_board) (issued_queries 1 (plan_pair old new)) = queries_report empty_board (issue_report first) empty_is issue_is in
      record {
        loaded = λ c k. ap (λ (t : Queries). t.loaded c k) e;
        done = λ c. ap (λ (t : Queries). t.done c) e;
        opened = λ n. ap (λ (t : Queries). t.opened n) e;
        issued = λ n. ap (λ (t : Queries). t.issued n) e;
      }

  leads : StandsForLeader (start old new count) (after_begin (new_leader old 0) first)
  leads = record {
    course = refl;
    opened = refl;
    told = same_by _ _ (sym (same_queries _ _ issued));
  }

  named : ℕ → Bool
  named p = names old p || names new p

  low : (p : ℕ) → (names old p || names new p) ≡ true → p < part_limit
  low p either = elim (or_cases (names old p) (names new p) either) [
    | inl a ↦ named_low old p old_is.ranges a
    | inr b ↦ named_low new p new_is.ranges b
  ]

  first_part : (p : ℕ) → (names old p || names new p) ≡ true → StandsForPart (start old new count) p (new_part p first)
  first_part p is = record {
    there = part_first old new p old_is new_is is;
    limit = low p is;
    id = refl;
    first = refl;
    told = subst (SameQueries no_queries) (sym told_none) (same_self no_queries);
    held = λ k. sym (owned p k old old_is.canonical.tiles);
    closed = λ n. sym (none_closed first p n);
    given = λ n k. sym (none_given first p n k);
    loaded = λ n k. sym (none_loaded first p n k);
  }

  neither : (b c : Bool) → (b || c) ≡ false → b ≡ false
  neither true c e = absurd (false≢true (sym e))
  neither false c e = refl

  first_absent : (p : ℕ) → (names old p || names new p) ≡ false → IsAbsent (start old new count) p
  first_absent p none = record {
    gone = in_filter (λ q. names old q || names new q) part_limit p (λ h. low p h) ∙ none;
    unnamed = neither (names old p) (names new p) none;
    told = same_self no_queries;
    held = λ k. sym (owned p k old old_is.canonical.tiles) ∙ none_owned p k old (neither (names old p) (names new p) none);
    closed = λ n. refl;
    given = λ n k. refl;
    loaded = λ n k. refl;
  }

  parts_at : (p : ℕ) (a : PartValue) → (first_system old new count).parts p ≡ Some a → StandsForPart (start old new count) p a
  parts_at p a e = by (names old p || names new p) refl e
    where
      by : (b : Bool) → (names old p || names new p) ≡ b → cond b (Some (new_part p first)) None ≡ Some a → StandsForPart (start old new count) p a
      by true is e = subst (StandsForPart (start old new count) p) (same_Some (new_part p first) a e) (first_part p is)
      by false is e = absurd (none-some a e)

  absent_at : (p : ℕ) → (first_system old new count).parts p ≡ None → IsAbsent (start old new count) p
  absent_at p e = by (names old p || names new p) refl e
    where
      by : (b : Bool) → (names old p || names new p) ≡ b → cond b (Some (new_part p first)) None ≡ None → IsAbsent (start old new count) p
      by true is e = absurd (none-some (new_part p first) (sym e))
      by false is e = first_absent p is

  routers_at : (r : ℕ) (x : RouterValue) → (first_system old new count).routers r ≡ Some x → StandsForRouter (start old new count) r x
  routers_at r x e = by (nat_lt r count) refl e
    where
      by : (b : Bool) → nat_lt r count ≡ b → cond b (Some (router_with first empty_board)) None ≡ Some x → StandsForRouter (start old new count) r x
      by true is e = subst (StandsForRouter (start old new count) r) (same_Some (router_with first empty_board) x e) (record { there = is; first = refl; told = subst (SameQueries no_queries) (sym told_none) (same_self no_queries) })
      by false is e = absurd (none-some x e)

  pub first_world : Beside (first_change old new) (start old new count) (first_system old new count)
  first_world = record {
    reached = reached_start old new count (start old new count) old_is new_is (same_as_itself (start old new count));
    first_is = refl;
    plans = plans_are old new old_is new_is;
    stands = record { leader = leads; parts = parts_at; absent = absent_at; routers = routers_at; chunks = refl; messages = refl };
    system = first_systems_are_systems old new count old_is new_is;
  }

-- ---- what it comes to

-- a run leads from the one world to the other
pub record Onward (w v : WorldValue) : Type 0 where
  pub events : List Event
  pub answers : List Answer
  pub run : Run w events answers v

onward : (w v u : WorldValue) → Onward w v → Follows v u → Onward w u
onward w v u on (inl same) = subst (Onward w) (sym same) on
onward w v u on (inr (event, answer, step)) = record { events = on.events ++ event ∷ []; answers = on.answers ++ answer ∷ []; run = run_more w on.events on.answers v event answer u on.run step }

-- the worlds beside what a system comes to, one after another
pub comes_on : (first : Change) (w : WorldValue) (s t : SystemValue) → Beside first w s → Comes first s t → (v : WorldValue) × Onward w v × Beside first v t
comes_on course w s _ b still = (w, record { events = []; answers = []; run = same_as_itself w }, b)
comes_on course w s _ b (next t u before happens) =
    let v = comes_on course w s t b before in
    let x = goes_on course v.0 t u v.2 happens in
    (x.0, onward w v.0 x.0 v.1 x.1, x.2)

-- a world beside what came of a system between two plans
pub beside_run : (old new : List PlanRange) (routers : ℕ) (s : SystemValue) → IsRun old new routers s → (w : WorldValue) × Beside (first_change old new) w s
beside_run old new routers s run =
    let w = comes_on (first_change old new) (start old new routers) (first_system old new routers) s (first_world old new routers run.old_plan run.new_plan) run.come in
    (w.0, w.2)

pub systems_are_worlds : SystemsAreWorlds
systems_are_worlds old new routers s run = let w = beside_run old new routers s run in (w.0, w.1.reached, w.1.stands)
