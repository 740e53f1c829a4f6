-- What is promised of worlds is kept by systems.
use Rattle.std.proofs.Common.{◌≡◌, ℕ, ◌<◌, ◌≤◌, true, false, Option, None, Some, refl, sym, subst, ap, ◌∙◌, inl, inr}
use Rattle.std.specs.List.{slice_get}
use Rattle.std.proofs.lemmas.Bool.{false≢true}
use Rattle.std.proofs.lemmas.Option.{same_Some}
use Rattle.squall_span.specs.Spans.{has}
use Rattle.squall_plan.specs.Ranges.{owner_of}
use Rattle.squall_join.specs.declared.flat.Flat.{Flat}
use Rattle.squall_join.specs.declared.flat.Flat.TheVariants.{Unknown, One}
use Rattle.squall_course.specs.Change.{Change}
use Rattle.squall_course.specs.Moves.{is_incoming}
use Rattle.squall_report.specs.Issues.{PlanPair}
use Rattle.squall_report.specs.Queries.{Queries}
use Rattle.squall_report.specs.QueriesLaws.{same_queries}
use Rattle.squall_board.specs.Boards.{BoardValue, issued}
use Rattle.squall_board.specs.BoardQueries.{queries_of}
use Rattle.squall_board.specs.CourseRoute.{IsCourseBy}
use Rattle.squall_board.specs.CourseRouteLaws.{board_course, one_course}
use Rattle.squall_errand.specs.declared.errand.Reply.{Reply}
use Rattle.squall_errand.specs.declared.errand.Reply.TheVariants.{Moved, Pending}
use Rattle.squall_protocol.specs.Chunks.{ChunkValue}
use Rattle.squall_protocol.specs.declared.event.Node.{Node}
use Rattle.squall_protocol.specs.declared.event.Node.TheVariants.{Leader, Part, Router}
use Rattle.squall_protocol.specs.declared.event.Event.TheVariants.{Serve}
use Rattle.squall_protocol.specs.declared.answer.Answer.{Answer}
use Rattle.squall_protocol.specs.declared.answer.Answer.TheVariants.{Served, Refused}
use Rattle.squall_protocol.specs.declared.answer.Refusal.TheVariants.{NoSuch}
use Rattle.squall_protocol.specs.Worlds.{WorldValue, first_course, last_course, pair_at, is_part}
use Rattle.squall_protocol.specs.Steps.{Step}
use Rattle.squall_protocol.specs.Promises.{IsReached, Carrier, Carries, IsInFlight, OneCarrier, TrueReports, Happened, HasEnded, OneDestination, ChunksHaveNodes, Answers, IsWelcome, IsWelcomeAfter, IsHome, IsDue, RoutedIsLoaded, RoutesAreServed, MovesAreServed, AwaitedComes, OverIsThere, FirstRoutesAreHome, FirstMovesAreDue}
use Rattle.squall_protocol.specs.Promises.Carrier.{Holder, Flight}
use Rattle.squall_protocol.specs.WorldLaws.{same_as_itself}
use Rattle.squall_part.specs.Parts.{PartValue, course_of_part}
use Rattle.squall_leader.specs.Leaders.{IsOver}
use Rattle.squall_router.specs.Routers.{course_of_router, route_of_router}
use Rattle.squall_nodes.specs.Systems.{SystemValue, first_change}
use Rattle.squall_nodes.specs.Kept.{IsOnWay, CarriesIn, KeysAreSomewhere, HasLoaded, IsBoardIn, HasEndedIn, HappenedIn, ReportsAreTrue, RoutedKeysAreLoaded, SourcesFeedOne, ChunksHaveParts, Replies, RoutersAreRight, MovesAreRight, AwaitedKeysCome, KeysAreWhereDue, IsAtFirst, FirstRoutersAreHome, MovesAreDue}
use Rattle.squall_nodes.specs.Kept.IsBoardIn.{of_leader, of_part, of_router}
use Rattle.squall_nodes.specs.Standing.{StandsForPart}
use Rattle.squall_nodes.proofs.Agree.{facts_seen as part_facts}
use Rattle.squall_nodes.proofs.Gifts.{course_is, serves_by_step}
use Rattle.squall_nodes.proofs.Routes.{router_facts, routes_by_step}
use Rattle.squall_nodes.proofs.Leads.{over_seen}
use Rattle.squall_nodes.proofs.Systems.{Beside, comes_on, beside_run}

module _ (w : WorldValue) (s : SystemValue) (first : Change) (b : Beside first w s) where
  -- ---- carriers

  pub there_in : (p : ℕ) → is_part w p ≡ true → (a : PartValue) × (s.parts p ≡ Some a)
  there_in p is = by (s.parts p) refl
    where
      by : (o : Option PartValue) → s.parts p ≡ o → (a : PartValue) × (s.parts p ≡ Some a)
      by (Some a) there = (a, there)
      by None gone = absurd (false≢true (sym (b.stands.absent p gone).gone ∙ is))

  -- what the world has loaded, a partition has
  pub has_loaded : (p n k : ℕ) → w.loaded n p k ≡ true → HasLoaded s p n k
  has_loaded p n k loaded = by (s.parts p) refl
    where
      by : (o : Option PartValue) → s.parts p ≡ o → HasLoaded s p n k
      by (Some a) there = (a, there, sym ((b.stands.parts p a there).loaded n k) ∙ loaded)
      by None gone = absurd (false≢true (sym ((b.stands.absent p gone).loaded n k) ∙ loaded))

  pub on_way : (x : ChunkValue) (k : ℕ) → IsInFlight w x k → IsOnWay s x k
  on_way x k (keys, not_loaded) = (keys, (λ a there. sym ((b.stands.parts x.dest a there).loaded x.number k) ∙ not_loaded))

  pub in_flight : (x : ChunkValue) (k : ℕ) → IsOnWay s x k → IsInFlight w x k
  in_flight x k (keys, not_loaded) = (keys, by (s.parts x.dest) refl)
    where
      by : (o : Option PartValue) → s.parts x.dest ≡ o → w.loaded x.number x.dest k ≡ false
      by (Some a) there = (b.stands.parts x.dest a there).loaded x.number k ∙ not_loaded a there
      by None gone = (b.stands.absent x.dest gone).loaded x.number k

  pub chunk_in : (i : ℕ) (x : ChunkValue) → slice_get s.chunks i ≡ Some x → slice_get w.chunks i ≡ Some x
  chunk_in i x e = ap (λ l. slice_get l i) b.stands.chunks ∙ e

  pub to_system : (k : ℕ) (x : Carrier) → Carries w k x → CarriesIn s k x
  to_system k (Holder p) held = by (s.parts p) refl
    where
      by : (o : Option PartValue) → s.parts p ≡ o → (a : PartValue) × (s.parts p ≡ Some a) × (has a.held k ≡ true)
      by (Some a) there = (a, there, sym ((b.stands.parts p a there).held k) ∙ held)
      by None gone = absurd (false≢true (sym ((b.stands.absent p gone).held k) ∙ held))
  to_system k (Flight i) (x, chunk, flight) = (x, ap (λ l. slice_get l i) (sym b.stands.chunks) ∙ chunk, on_way x k flight)

  pub to_world : (k : ℕ) (x : Carrier) → CarriesIn s k x → Carries w k x
  to_world k (Holder p) (a, there, held) = (b.stands.parts p a there).held k ∙ held
  to_world k (Flight i) (x, chunk, way) = (x, chunk_in i x chunk, in_flight x k way)

  -- ---- reports

  -- the node that has a board
  facts_are : (d : BoardValue) → IsBoardIn s d → (node : Node) × (w.facts node ≡ queries_of d)
  facts_are _ of_leader = (Leader, same_queries (w.facts Leader) (queries_of s.leader.board) b.stands.leader.told)
  facts_are _ (of_part p a there) = (Part p, same_queries (w.facts (Part p)) (queries_of a.board) (b.stands.parts p a there).told)
  facts_are _ (of_router r x there) = (Router r, same_queries (w.facts (Router r)) (queries_of x.board) (b.stands.routers r x there).told)

  pub happened : TrueReports w → (d : BoardValue) → IsBoardIn s d → Happened w (queries_of d)
  happened promise d is = let f = facts_are d is in subst (Happened w) f.1 (promise f.0)

  pub last_of : (c : Change) → s.leader.course ≡ Some c → c ≡ last_course w
  last_of c e = same_Some c (last_course w) (sym e ∙ b.stands.leader.course)

same_One : (p q : PlanPair) → ◌≡◌ {A = Flat PlanPair} (One p) (One q) → p ≡ q
same_One p q e = cc

unknown-one : (p : PlanPair) → ◌≡◌ {A = Flat PlanPair} Unknown (One p) → ⊥
unknown-one p e = cc

-- the pair that is issued on a board is that of the world
issued_is : (w : WorldValue) (d : BoardValue) (n : ℕ) (pair : PlanPair) → Happened w (queries_of d) → issued d n ≡ One pair → pair ≡ pair_at w n
issued_is w d n pair h e = elim (h.issued n) [
  | inl none ↦ absurd (unknown-one pair (sym none ∙ e))
  | inr one ↦ same_One pair (pair_at w n) (sym e ∙ one.1)
]

-- ---- carriers

pub keys_are_somewhere : ((w : WorldValue) → IsReached w → OneCarrier w) → KeysAreSomewhere
keys_are_somewhere one old new routers s run k lt =
    let w = beside_run old new routers s run in
    let x = one w.0 w.1.reached k lt in
    (x.0, to_system w.0 s (first_change old new) w.1 k x.0 x.1, (λ y h. x.2 y (to_world w.0 s (first_change old new) w.1 k y h)))

-- ---- true reports

happened_in : (w : WorldValue) (s : SystemValue) (first : Change) → Beside first w s → TrueReports w → (b : BoardValue) → IsBoardIn s b → HappenedIn s b
happened_in w s first beside promise b is = record {
  loaded = λ c k says. has_loaded w s first beside c.part c.number k (here.loaded c k says);
  done = λ c d pair k says other issue inc.
      let same : pair ≡ pair_at w c.number = issued_is w d c.number pair (happened w s first beside promise d other) issue in
      has_loaded w s first beside c.part c.number k (here.done c says k (subst (λ (p : PlanPair). is_incoming p.old p.new c.sub c.part k ≡ true) same inc));
  opened = λ n t c lt course.
      let one : c.number ≡ w.last = ap (λ (d : Change). d.number) (last_of w s first beside c course) in
      (subst (λ v. n ≤ v) (sym one) (here.opened_begun n t lt).1, (λ e. subst (λ v. t < v) beside.stands.leader.opened (subst (λ m. t < w.opened m) (e ∙ one) (here.opened n t lt))));
  issued = λ n. elim (here.issued n) [
    | inl none ↦ inl none
    | inr one ↦ inr (pair_at w n, one.1, (λ d other at issue. issued_is w d n other (happened w s first beside promise d at) issue))
  ];
}
  where
    here : Happened w (queries_of b)
    here = happened w s first beside promise b is

pub reports_are_true : ((w : WorldValue) → IsReached w → TrueReports w) → ReportsAreTrue
reports_are_true promise old new routers s run b is =
    let w = beside_run old new routers s run in
    happened_in w.0 s (first_change old new) w.1 (promise w.0 w.1.reached) b is

pub routed_keys_are_loaded : ((w : WorldValue) → IsReached w → RoutedIsLoaded w) → RoutedKeysAreLoaded
routed_keys_are_loaded promise old new routers s run r k x there other =
    let w = beside_run old new routers s run in
    let stands = w.1.stands.routers r x there in
    let board = w.1.system.routers r x there in
    let routed = routes_by_step w.0 r k x stands board in
    let course : IsCourseBy (first_course w.0) (w.0.facts (Router r)) (course_of_router x) =
    subst (λ c. IsCourseBy c (w.0.facts (Router r)) (course_of_router x)) (sym stands.first)
    (subst (λ t. IsCourseBy x.first t (course_of_router x)) (sym (router_facts w.0 r x stands)) (board_course x.first x.board board)) in
    has_loaded w.0 s (first_change old new) w.1 (route_of_router x k) (course_of_router x).number k (promise w.0 w.1.reached r k (route_of_router x k) (course_of_router x) course routed.1.1 other)

-- ---- chunks

pub sources_feed_one : ((w : WorldValue) → IsReached w → OneDestination w) → SourcesFeedOne
sources_feed_one promise old new routers s run i j k m x y at_i at_j way_x way_y same =
    let w = beside_run old new routers s run in
    let first = first_change old new in
    let one = promise w.0 w.1.reached i j k m x y (chunk_in w.0 s first w.1 i x at_i) (chunk_in w.0 s first w.1 j y at_j) (in_flight w.0 s first w.1 x k way_x) (in_flight w.0 s first w.1 y m way_y) same in
    (one.0, (λ c course. (one.1 ∙ ap (λ (d : Change). d.number) (sym (last_of w.0 s first w.1 c course)), one.2 ∙ w.1.stands.leader.opened)))

pub chunks_have_parts : ((w : WorldValue) → IsReached w → ChunksHaveNodes w) → ChunksHaveParts
chunks_have_parts promise old new routers s run i x at =
    let w = beside_run old new routers s run in
    let both = promise w.0 w.1.reached i x (chunk_in w.0 s (first_change old new) w.1 i x at) in
    let source = there_in w.0 s (first_change old new) w.1 x.source both.0 in
    let dest = there_in w.0 s (first_change old new) w.1 x.dest both.1 in
    (source.0, dest.0, source.1, dest.1)

-- ---- replies

-- a partition that replies so in the world is there, and replies so
replies : (first : Change) (v : WorldValue) (t : SystemValue) (p k after : ℕ) (P : Reply → Type 0) → Beside first v t → ((answer : Answer) (u : WorldValue) → Step v (Serve p k after) answer u → Answers P answer) → Replies t p k after P
replies first v t p k after P b all = by (t.parts p) refl
  where
    by : (o : Option PartValue) → t.parts p ≡ o → Replies t p k after P
    by (Some a) there = (a, there, λ reply is. let x = serves_by_step v p k after a reply (b.stands.parts p a there) (b.system.parts p a there) is in all (Served reply) x.0 x.1)
    by None gone = absurd (all (Refused NoSuch) v ((b.stands.absent p gone).gone, same_as_itself v))

pub routers_are_right : ((w : WorldValue) → IsReached w → RoutesAreServed w) → RoutersAreRight
routers_are_right promise old new routers s t run come r k x lt there =
    let w = beside_run old new routers s run in
    let v = comes_on (first_change old new) w.0 s t w.1 come in
    let routed = routes_by_step w.0 r k x (w.1.stands.routers r x there) (w.1.system.routers r x there) in
    replies (first_change old new) v.0 t (route_of_router x k) k 0 IsWelcome v.2
    (λ answer u step. promise w.0 w.1.reached r k (route_of_router x k) lt routed.1.1 v.1.events v.1.answers v.0 u answer v.1.run step)

pub moves_are_right : ((w : WorldValue) → IsReached w → MovesAreServed w) → MovesAreRight
moves_are_right promise old new routers s t run come p k after d n b there moved =
    let w = beside_run old new routers s run in
    let v = comes_on (first_change old new) w.0 s t w.1 come in
    let x = serves_by_step w.0 p k after b (Moved d n) (w.1.stands.parts p b there) (w.1.system.parts p b there) moved in
    replies (first_change old new) v.0 t d k n (IsWelcomeAfter n) v.2 (λ answer u step. promise w.0 w.1.reached p k after d n x.1.1 v.1.events v.1.answers v.0 u answer v.1.run step)

-- ---- ends

-- a course that ended in the world ended in the system
has_ended : (w : WorldValue) (s : SystemValue) (first : Change) → Beside first w s → (p source : ℕ) (a : PartValue) → s.parts p ≡ Some a → HasEnded w p source → HasEndedIn s a source
has_ended w s first b p source a there ended = by (s.parts source) refl
  where
    stands : StandsForPart w p a
    stands = b.stands.parts p a there

    same : ended.course ≡ course_of_part a
    same = one_course (first_course w) (w.facts (Part p)) ended.course (course_of_part a) ended.newest
        (subst (λ (x : Change × Queries). IsCourseBy x.0 x.1 (course_of_part a)) (λ i. (sym stands.first i, sym (part_facts w p a stands) i)) (course_is a (b.system.parts p a there)))

    closed : w.closed (course_of_part a).number source ≡ true
    closed = subst (λ (c : Change). w.closed c.number source ≡ true) same ended.closed

    by : (o : Option PartValue) → s.parts source ≡ o → HasEndedIn s a source
    by (Some g) is = record {
      later = λ c course. subst (λ (n : ℕ × ℕ). n.0 < n.1) (λ i. ((same i).number, (sym (last_of w s first b c course) i).number)) ended.later;
      giver = g;
      there = is;
      closed = sym ((b.stands.parts source g is).closed (course_of_part a).number) ∙ closed;
    }
    by None gone = absurd (false≢true (sym ((b.stands.absent source gone).closed (course_of_part a).number) ∙ closed))

pub awaited_keys_come : ((w : WorldValue) → IsReached w → AwaitedComes w) → AwaitedKeysCome
awaited_keys_come promise old new routers s run p k after source a there waits =
    let w = beside_run old new routers s run in
    let first = first_change old new in
    let x = serves_by_step w.0 p k after a (Pending source) (w.1.stands.parts p a there) (w.1.system.parts p a there) waits in
    elim (promise w.0 w.1.reached p k after source x.1.1) [
      | inl held ↦ inl (to_system w.0 s first w.1 k (Holder source) held)
      | inr (inl (i, y, at, flight, from, to)) ↦ inr (inl (i, y, ap (λ l. slice_get l i) (sym w.1.stands.chunks) ∙ at, on_way w.0 s first w.1 y k flight, from, to))
      | inr (inr ended) ↦ inr (inr (has_ended w.0 s first w.1 p source a there ended))
    ]

pub keys_are_where_due : ((w : WorldValue) → IsReached w → OverIsThere w) → KeysAreWhereDue
keys_are_where_due promise old new routers s run (d, course_d, over) c course k lt =
    let w = beside_run old new routers s run in
    let first = first_change old new in
    let last : c ≡ last_course w.0 = last_of w.0 s first w.1 c course in
    let is_over = over_seen w.0 s.leader w.1.stands.leader w.1.system.leader (subst (IsOver s.leader) (last_of w.0 s first w.1 d course_d) over) in
    to_system w.0 s first w.1 k (Holder (owner_of c.new k)) (subst (λ (e : Change). w.0.held (owner_of e.new k) k ≡ true) (sym last) (promise w.0 w.1.reached is_over k lt))

-- ---- replies, while there is one course

at_first : (v : WorldValue) (t : SystemValue) (first : Change) → Beside first v t → IsAtFirst t → v.last ≡ 1
at_first v t first b (c, course, one) = sym (ap (λ (d : Change). d.number) (last_of v t first b c course)) ∙ one

pub first_routers_are_home : ((w : WorldValue) → IsReached w → FirstRoutesAreHome w) → FirstRoutersAreHome
first_routers_are_home promise old new routers s t run come begun r k x lt there =
    let w = beside_run old new routers s run in
    let v = comes_on (first_change old new) w.0 s t w.1 come in
    let routed = routes_by_step w.0 r k x (w.1.stands.routers r x there) (w.1.system.routers r x there) in
    replies (first_change old new) v.0 t (route_of_router x k) k 0 IsHome v.2
    (λ answer u step. promise w.0 w.1.reached r k (route_of_router x k) lt routed.1.1 v.1.events v.1.answers v.0 u answer v.1.run (at_first v.0 t (first_change old new) v.2 begun) step)

pub moves_are_due : ((w : WorldValue) → IsReached w → FirstMovesAreDue w) → MovesAreDue
moves_are_due promise old new routers s t run come begun p k after d n b there moved =
    let w = beside_run old new routers s run in
    let v = comes_on (first_change old new) w.0 s t w.1 come in
    let x = serves_by_step w.0 p k after b (Moved d n) (w.1.stands.parts p b there) (w.1.system.parts p b there) moved in
    replies (first_change old new) v.0 t d k n IsDue v.2
    (λ answer u step. promise w.0 w.1.reached p k after d n x.1.1 v.1.events v.1.answers v.0 u answer v.1.run (at_first v.0 t (first_change old new) v.2 begun) step)
