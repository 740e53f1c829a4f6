-- The leader begins a course, and partitions come.
use Rattle.std.proofs.Common.{◌≡◌, ℕ, ◌+◌, ◌<◌, ◌≤◌, ◌==◌, ◌&&◌, Bool, true, false, cond, List, [], ◌∷◌, ◌++◌, length, Option, None, Some, Ok, Err, position, refl, sym, ap, subst, ◌∙◌, arith, inl, inr}
use Rattle.std.specs.Prelude.{is_some, not}
use Rattle.std.specs.List.{slice_get, flat_map, list_any, filter, range_with_len, AllByRecursion}
use Rattle.std.proofs.lemmas.Bool.{cases_lt, and_parts, not-true}
use Rattle.std.proofs.lemmas.List.{length-append}
use Rattle.squall_join.specs.declared.flat.Flat.TheVariants.{One}
use Rattle.squall_key.specs.Keys.{part_limit}
use Rattle.squall_plan.specs.declared.range.PlanRange.{PlanRange}
use Rattle.squall_plan.specs.Ranges.{names}
use Rattle.squall_course.specs.Change.{Change, ArePlans}
use Rattle.squall_course.proofs.Rising.{filter_up, in_filter_yes}
use Rattle.squall_report.specs.Issues.{plan_pair}
use Rattle.squall_report.specs.Queries.{SameQueries, joined_queries, issued_queries}
use Rattle.squall_board.specs.Boards.{IsBoard, board_join, report_board}
use Rattle.squall_board.specs.BoardQueries.{queries_of}
use Rattle.squall_board.specs.BoardLaws.{issue_board_is}
use Rattle.squall_part.specs.Parts.{PartValue, new_part}
use Rattle.squall_leader.specs.declared.fault.LeaderFault.TheVariants.{Running as LeaderRunning, NoNumber as LeaderNoNumber}
use Rattle.squall_leader.specs.Leaders.{LeaderValue, IsLeader, IsBegunFrom, IsOver, issue_report}
use Rattle.squall_protocol.specs.declared.event.Node.{Node}
use Rattle.squall_protocol.specs.declared.event.Node.TheVariants.{Leader, Part}
use Rattle.squall_protocol.specs.declared.event.Event.TheVariants.{Begin, BeginFrom}
use Rattle.squall_protocol.specs.declared.answer.Answer.{Answer}
use Rattle.squall_protocol.specs.declared.answer.Answer.TheVariants.{Begun, Refused}
use Rattle.squall_protocol.specs.declared.answer.Refusal.TheVariants.{Running, NoNumber}
use Rattle.squall_protocol.specs.Worlds.{WorldValue, SameWorld}
use Rattle.squall_protocol.specs.Steps.{BeginStep, BeginFromStep, IsWhereLeft, after_begin, new_parts, told_to}
use Rattle.squall_protocol.specs.Steps.{IsOver as WorldOver}
use Rattle.squall_protocol.specs.Promises.{IsReached}
use Rattle.squall_protocol.proofs.ProtocolLaws.{over_left}
use Rattle.squall_world.specs.Nets.{with_peer, PeerValue, NetValue, IsNet, IsRole, IsRouterAt, IsPartAt, IsChain, ArePlaced, role_board, place_of, peer_of, put_at, first_of, newest_of, no_course, is_part_peer, is_part_role, leader_in, part_in}
use Rattle.squall_world.specs.Views.{view, course_under, id_of, ids_in, opened_by, opened_in, opened_under, part_of, held_by, closed_under, given_under, loaded_under, facts_of}
use Rattle.squall_world.specs.Events.{HasLeader, IsCourseIn, IsDoneIn, IsBeginIn, IsBegunNet, named_first, part_peers}
use Rattle.squall_world.proofs.Lists.{length_put, put_here, put_there, place_put, place_left, flat_append, get_left}
use Rattle.squall_world.proofs.Nodes.{IsChanged, part_seen_there}
use Rattle.squall_nodes.proofs.Agree.{queries_report}
use Rattle.squall_nodes.proofs.Begins.{none_closed, none_given, none_loaded, begins_by_step, begins_from_by_step}
use Rattle.squall_nodes.proofs.Leads.{one_course, over_seen}
use Rattle.squall_nodes.proofs.Owned.{none_owned}
use Rattle.squall_world.proofs.History.{IsHistory, history_of, history_more, history_new}
use Rattle.squall_world.proofs.Seen.{ids_kept, facts_told, parts_kept, messages_kept, step_to, refused_to}
use Rattle.squall_world.proofs.Courses.{last_seen, chain_more, first_stays, newest_begun, course_begun, opened_begun}
use Rattle.squall_world.proofs.Courses.{last_number as number_of_last}
use Rattle.squall_world.proofs.Led.{leads_last, leader_stands, leader_reports, leader_more, leader_is}
use Rattle.squall_world.proofs.Coming.{comer_stands, comers_new, ids_come}
use Rattle.squall_world.proofs.Started.{low_ids}
use Rattle.squall_world.proofs.Added.{IsAdded, added_node, added_messages, nodes_counted}

-- ---- what beginning says

record IsBeginning (n : NetValue) (a b : LeaderValue) (c : Change) (start plan : List PlanRange) : Type 0 where
  number : c.number ≡ length n.courses + 1
  old : c.old ≡ start
  new : c.new ≡ plan
  course : b.course ≡ Some c
  opened : b.opened ≡ 0
  board : b.board ≡ board_join a.board (report_board (issue_report c))
  plans : ArePlans c.old c.new

beginning : (n : NetValue) (peer : PeerValue) (a b : LeaderValue) (c : Change) (old plan : List PlanRange) → IsNet n → HasLeader n peer a → IsBegunFrom a old plan (Ok c) b → IsLeader b → IsBeginning n a b c old plan
beginning n peer a b c old plan net has (room, next, after) is =
    let last = (leader_is n peer a net has).course (newest_of n) (leads_last n peer a net has) in
    let course : b.course ≡ Some c = ap (λ (l : LeaderValue). l.course) after in
    record {
      number = ap (λ (d : Change). d.number) next ∙ ap (λ v. v + 1) (sym last.1 ∙ number_of_last n net);
      old = ap (λ (d : Change). d.old) next;
      new = ap (λ (d : Change). d.new) next;
      course = course;
      opened = ap (λ (l : LeaderValue). l.opened) after;
      board = ap (λ (l : LeaderValue). l.board) after;
      plans = is.plans c course;
    }

-- ---- the net after it

abbrev begun_net : NetValue → PeerValue → ℕ → LeaderValue → Change → List PlanRange → List (Option ℕ) → NetValue
begun_net n peer opened b c plan places =
    record {
      courses = n.courses ++ c ∷ [];
      ended = n.ended ++ opened ∷ [];
      peers = put_at 0 (leader_reports peer b (issue_report c)) n.peers ++ part_peers (first_of n) (named_first n plan);
      routers = n.routers;
      places = places;
      messages = n.messages;
      chunks = n.chunks;
    }

net_is : (n : NetValue) (peer : PeerValue) (opened : ℕ) (b : LeaderValue) (c : Change) (plan : List PlanRange) (m : NetValue) → IsBegunNet n peer opened b c plan m → m ≡ begun_net n peer opened b c plan m.places
net_is n peer opened b c plan m is = λ i. record { courses = is.courses i; ended = is.ended i; peers = is.peers i; routers = is.routers i; places = m.places; messages = is.messages i; chunks = is.chunks i }

module _ (n : NetValue) (peer : PeerValue) (a b : LeaderValue) (c : Change) (old plan : List PlanRange) (places : List (Option ℕ)) (net : IsNet n) (has : HasLeader n peer a) (o : IsBeginning n a b c old plan) (is : IsLeader b) (valid : AllByRecursion (λ p. IsRole p.role) (part_peers (first_of n) (named_first n plan))) where
  is_changed : IsChanged n Leader 0 peer (leader_reports peer b (issue_report c))
  is_changed = record {
    place = refl;
    there = has.there;
    kind = λ p. ap (is_part_role p) (sym has.role);
    ids = ap id_of (sym has.role);
  }

  issue_is : IsBoard (report_board (issue_report c))
  issue_is = issue_board_is c.number (One (plan_pair c.old c.new)) (let number : c.number ≡ length n.courses + 1 = o.number in omega (arith, number))

  first_same : first_of (begun_net n peer a.opened b c plan places) ≡ first_of n
  first_same = first_stays n.courses c no_course net.some

  count_same : length (put_at 0 (leader_reports peer b (issue_report c)) n.peers) ≡ length n.peers
  count_same = length_put 0 (leader_reports peer b (issue_report c)) n.peers

  -- what stands at another place than the leader's
  there_still : (i : ℕ) → 0 < i → i < length n.peers → slice_get (begun_net n peer a.opened b c plan places).peers i ≡ slice_get n.peers i
  there_still i some lt =
      get_left (put_at 0 (leader_reports peer b (issue_report c)) n.peers) (part_peers (first_of n) (named_first n plan)) i (subst (λ v. i < v) (sym count_same) lt)
      ∙ put_there 0 i (leader_reports peer b (issue_report c)) n.peers (λ e. omega (arith, some, e))

  lead_there : slice_get (begun_net n peer a.opened b c plan places).peers 0 ≡ Some (leader_reports peer b (issue_report c))
  lead_there =
      get_left (put_at 0 (leader_reports peer b (issue_report c)) n.peers) (part_peers (first_of n) (named_first n plan)) 0 (let k = count_same in let room : n.routers < length n.peers = net.room in omega (arith, k, room))
      ∙ put_here 0 (leader_reports peer b (issue_report c)) peer n.peers has.there

  -- who had a place has it
  place_same : (p : ℕ) → position (is_part_peer p) (put_at 0 (leader_reports peer b (issue_report c)) n.peers) ≡ place_of n (Part p)
  place_same p = place_put (is_part_peer p) 0 (leader_reports peer b (issue_report c)) peer n.peers has.there (is_changed.kind p)

  place_still : (p i : ℕ) → place_of n (Part p) ≡ Some i → place_of (begun_net n peer a.opened b c plan places) (Part p) ≡ Some i
  place_still p i e = place_left (is_part_peer p) (put_at 0 (leader_reports peer b (issue_report c)) n.peers) (part_peers (first_of n) (named_first n plan)) i (place_same p ∙ e)

  history : IsHistory (begun_net n peer a.opened b c plan places).peers n.messages
  history = history_new (put_at 0 (leader_reports peer b (issue_report c)) n.peers) (part_peers (first_of n) (named_first n plan)) n.messages
      (history_more n.peers n.messages 0 peer (leader_reports peer b (issue_report c)) (history_of n net) (leader_more n peer a b (issue_report c) net has is o.board issue_is))
      (comers_new (first_of n) (named_first n plan) valid)

  chain : IsChain 1 (n.courses ++ c ∷ [])
  chain = chain_more 1 n.courses c net.chain (let number : c.number ≡ length n.courses + 1 = o.number in omega (arith, number)) o.plans

  router_still : (i : ℕ) → 0 < i → i ≤ n.routers → IsRouterAt (begun_net n peer a.opened b c plan places) i
  router_still i some le =
      let at = net.routers i some le in
      let room : n.routers < length n.peers = net.room in
      record { peer = at.peer; router = at.router; there = there_still i some (omega (arith, le, room)) ∙ at.there; role = at.role; first = at.first ∙ sym first_same }

  new_apart : (p : ℕ) → list_any (λ q. q == p) (named_first n plan) ≡ true → position (is_part_peer p) (put_at 0 (leader_reports peer b (issue_report c)) n.peers) ≡ None
  new_apart p e =
      let test = in_filter_yes (λ p. names plan p && not (is_some (place_of n (Part p)))) part_limit p e in
      place_same p ∙ by (place_of n (Part p)) (not-true (is_some (place_of n (Part p))) (and_parts (names plan p) (not (is_some (place_of n (Part p)))) test).1)
    where
      by : (x : Option ℕ) → is_some x ≡ false → x ≡ None
      by None e = refl
      by (Some i) e = absurd (let bad : ⊥ = cc in bad)

  part_still : (i : ℕ) → n.routers < i → i < length (begun_net n peer a.opened b c plan places).peers → IsPartAt (begun_net n peer a.opened b c plan places) i
  part_still i gt lt = elim (cases_lt i (length n.peers)) [
    | inl old ↦
        let at = net.parts i gt old in
        record {
          peer = at.peer;
          part = at.part;
          there = there_still i (omega (arith, gt)) old ∙ at.there;
          role = at.role;
          first = at.first ∙ sym first_same;
          limit = at.limit;
          place = place_still at.part.id i at.place;
        }
    | inr new ↦ comer_stands (begun_net n peer a.opened b c plan places) (put_at 0 (leader_reports peer b (issue_report c)) n.peers) (first_of n) (named_first n plan) i refl (sym first_same)
        (filter_up (λ p. names plan p && not (is_some (place_of n (Part p)))) 0 part_limit)
        (low_ids (λ p. names plan p && not (is_some (place_of n (Part p)))))
        new_apart
        (subst (λ v. v ≤ i) (sym count_same) new)
        lt
  ]

  named_still : (p : ℕ) → names (first_of (begun_net n peer a.opened b c plan places)).old p ≡ true → is_some (place_of (begun_net n peer a.opened b c plan places) (Part p)) ≡ true
  named_still p e = by (place_of n (Part p)) refl (net.named p (subst (λ (d : Change). names d.old p ≡ true) first_same e))
    where
      by : (x : Option ℕ) → place_of n (Part p) ≡ x → is_some x ≡ true → is_some (place_of (begun_net n peer a.opened b c plan places) (Part p)) ≡ true
      by (Some i) at e = ap is_some (place_still p i at)
      by None at e = absurd (let bad : ⊥ = cc in bad)

  begun_is : ArePlaced (begun_net n peer a.opened b c plan places) → IsNet (begun_net n peer a.opened b c plan places)
  begun_is placed = record {
    some = (let l = length-append n.courses (c ∷ []) in let some : 0 < length n.courses = net.some in omega (arith, l, some));
    chain = chain;
    ended = (let l = length-append n.courses (c ∷ []) in let k = length-append n.ended (a.opened ∷ []) in let e = net.ended in omega (arith, l, k, e));
    led = record { peer = leader_reports peer b (issue_report c); leader = b; there = lead_there; role = refl; course = o.course ∙ ap Some (sym (newest_begun n.courses c no_course)) };
    room = (let k = count_same in let l = length-append (put_at 0 (leader_reports peer b (issue_report c)) n.peers) (part_peers (first_of n) (named_first n plan)) in let room : n.routers < length n.peers = net.room in omega (arith, k, l, room));
    routers = router_still;
    parts = part_still;
    named = named_still;
    placed = placed;
    peers = history.peers;
    knowing = history.knowing;
    messages = history.messages;
  }

  -- ---- what is seen

  is_added : IsAdded (with_peer n 0 (leader_reports peer b (issue_report c))) (begun_net n peer a.opened b c plan places) (first_of n) (named_first n plan)
  is_added = record { peers = refl; routers = refl; room = (let k = count_same in let room : n.routers < length n.peers = net.room in omega (arith, k, room)) }

  no_part : part_in peer.role ≡ None
  no_part = ap part_in has.role

  -- what partitions answer is kept where those that come answer as none
  part_kept : {A : Type 0} (f : Option PartValue → A) → ((p : ℕ) → place_of n (Part p) ≡ None → f (Some (new_part p (first_of n))) ≡ f None) → (p : ℕ) → f (part_of (peer_of (begun_net n peer a.opened b c plan places) (Part p))) ≡ f (part_of (peer_of n (Part p)))
  part_kept f none p =
      added_node (λ x. f (part_of x)) (with_peer n 0 (leader_reports peer b (issue_report c))) (begun_net n peer a.opened b c plan places) (first_of n) (named_first n plan) is_added (λ q e. none q (sym (place_same q) ∙ e)) (Part p)
      ∙ parts_kept n Leader 0 peer (leader_reports peer b (issue_report c)) net is_changed f (ap f (sym no_part)) p

  unnamed : (p : ℕ) → place_of n (Part p) ≡ None → names (first_of n).old p ≡ false
  unnamed p e = by (names (first_of n).old p) refl
    where
      by : (x : Bool) → names (first_of n).old p ≡ x → x ≡ false
      by false h = refl
      by true h = let there : is_some (place_of n (Part p)) ≡ true = net.named p h in let bad : false ≡ true = sym (ap is_some e) ∙ there in sym bad

  parts_are : ids_in (begun_net n peer a.opened b c plan places) ≡ ids_in n ++ new_parts (view n) plan
  parts_are =
      flat_append (λ (x : PeerValue). id_of x.role) (put_at 0 (leader_reports peer b (issue_report c)) n.peers) (part_peers (first_of n) (named_first n plan))
      ∙ ap (λ l. l ++ flat_map (λ (x : PeerValue). id_of x.role) (part_peers (first_of n) (named_first n plan))) (ids_kept n Leader 0 peer (leader_reports peer b (issue_report c)) net is_changed)
      ∙ ap (λ l. ids_in n ++ l) (ids_come (first_of n) (named_first n plan))
      ∙ (λ i. ids_in n ++ filter (λ p. names plan p && not (sym (part_seen_there n p) i)) (range_with_len 0 part_limit))

  facts_are : (y : Node) → SameQueries (facts_of (peer_of (begun_net n peer a.opened b c plan places) y)) (told_to (view n) Leader (issued_queries (length n.courses + 1) (plan_pair old plan)) y)
  facts_are y = subst (λ t. SameQueries t (told_to (view n) Leader (issued_queries (length n.courses + 1) (plan_pair old plan)) y))
      (sym (added_node facts_of (with_peer n 0 (leader_reports peer b (issue_report c))) (begun_net n peer a.opened b c plan places) (first_of n) (named_first n plan) is_added (λ p e. refl) y))
      (facts_told n Leader 0 peer (leader_reports peer b (issue_report c)) net is_changed (issued_queries (length n.courses + 1) (plan_pair old plan)) issued y)
    where
      issued : queries_of b.board ≡ joined_queries (queries_of (role_board peer.role)) (issued_queries (length n.courses + 1) (plan_pair old plan))
      issued =
          ap queries_of o.board ∙ queries_report a.board (issue_report c) (leader_is n peer a net has).board issue_is
          ∙ (λ i. joined_queries (queries_of (role_board (sym has.role i))) (issued_queries (o.number i) (plan_pair (o.old i) (o.new i))))

  count_was : opened_in (slice_get n.peers 0) ≡ a.opened
  count_was = ap opened_in has.there ∙ ap (λ r. opened_by (leader_in r)) has.role

  opened_are : (i : ℕ) → (view (begun_net n peer a.opened b c plan places)).opened i ≡ (after_begin (view n) old plan).opened i
  opened_are i =
      ap (λ v. opened_under (n.ended ++ a.opened ∷ []) v i) (ap opened_in lead_there ∙ o.opened)
      ∙ opened_begun n.ended a.opened (length n.courses) i net.ended
      ∙ ap (λ v. cond (i == length n.courses + 1) 0 (opened_under n.ended v i)) (sym count_was)

  begun_world : SameWorld (view (begun_net n peer a.opened b c plan places)) (after_begin (view n) old plan)
  begun_world = record {
    old = λ i. ap (λ (d : Change). d.old) (course_begun n (begun_net n peer a.opened b c plan places) c i net.some refl) ∙ plan_of (λ d. d.old) i ∙ ap (λ p. cond (i == length n.courses + 1) p ((view n).old i)) o.old;
    new = λ i. ap (λ (d : Change). d.new) (course_begun n (begun_net n peer a.opened b c plan places) c i net.some refl) ∙ plan_of (λ d. d.new) i ∙ ap (λ p. cond (i == length n.courses + 1) p ((view n).new i)) o.new;
    last = length-append n.courses (c ∷ []);
    opened = opened_are;
    parts = parts_are;
    routers = refl;
    held = λ p k. part_kept (λ x. held_by x k) (λ q e. none_owned q k (first_of n).old (unnamed q e)) p;
    closed = λ m p. part_kept (λ x. closed_under x m) (λ q e. none_closed (first_of n) q m) p;
    given = λ m p k. part_kept (λ x. given_under x m k) (λ q e. none_given (first_of n) q m k) p;
    loaded = λ m p k. part_kept (λ x. loaded_under x m k) (λ q e. none_loaded (first_of n) q m k) p;
    facts = facts_are;
    messages = added_messages (with_peer n 0 (leader_reports peer b (issue_report c))) (begun_net n peer a.opened b c plan places) (first_of n) (named_first n plan) is_added n.messages
        (history_more n.peers n.messages 0 peer (leader_reports peer b (issue_report c)) (history_of n net) (leader_more n peer a b (issue_report c) net has is o.board issue_is)).messages
        ∙ messages_kept n Leader 0 peer (leader_reports peer b (issue_report c)) net is_changed (issue_report c ∷ []) refl n.messages net.messages;
    chunks = refl;
  }
    where
      plan_of : (side : Change → List PlanRange) (i : ℕ) → side (cond (i == length n.courses + 1) c (course_under n i)) ≡ cond (i == length n.courses + 1) (side c) (side (course_under n i))
      plan_of side i = by (i == length n.courses + 1)
        where
          by : (t : Bool) → side (cond t c (course_under n i)) ≡ cond t (side c) (side (course_under n i))
          by true = refl
          by false = refl

-- ---- a course between two plans

pub course_keeps : (n : NetValue) (old plan : List PlanRange) (answer : Answer) (m : NetValue) → IsNet n → IsCourseIn n old plan (Ok answer) m → IsNet m
course_keeps n old plan (Begun number parts) m net (peer, a, b, c, has, begun, is, number_is, counted, after) =
    let e : m ≡ begun_net n peer a.opened b c plan m.places = net_is n peer a.opened b c plan m after in
    subst IsNet (sym e) (begun_is n peer a b c old plan m.places net has (beginning n peer a b c old plan net has begun is) is after.valid (subst ArePlaced e after.placed))
course_keeps n old plan (Refused NoNumber) m net (peer, a, has, last, after) = subst IsNet (sym after) net
course_keeps n old plan _ m net h = absurd h

-- a plan that leads on from where keys are
pub course_from_steps : (n : NetValue) (old plan : List PlanRange) (answer : Answer) (m : NetValue) → IsNet n → IsWhereLeft (view n) old → IsCourseIn n old plan (Ok answer) m → BeginFromStep (view n) old plan answer (view m)
course_from_steps n old plan (Begun number parts) m net left (peer, a, b, c, has, begun, is, number_is, counted, after) =
    let o : IsBeginning n a b c old plan = beginning n peer a b c old plan net has begun is in
    let law = begins_from_by_step (view n) old plan a b (Ok c) (leader_stands n peer a net has) (leader_is n peer a net has) is left begun in
    let e : m ≡ begun_net n peer a.opened b c plan m.places = net_is n peer a.opened b c plan m after in
    let same : SameWorld (view m) (after_begin (view n) old plan) = subst (λ v. SameWorld (view v) (after_begin (view n) old plan)) (sym e) (begun_world n peer a b c old plan m.places net has o is after.valid) in
    let all = nodes_counted m (course_keeps n old plan (Begun number parts) m net (peer, a, b, c, has, begun, is, number_is, counted, after)) in
    let routers : m.routers ≡ n.routers = after.routers in
    let parts_same : length (ids_in m) ≡ length (after_begin (view n) old plan).parts = ap length same.parts in
    let parts_is : parts ≡ length (after_begin (view n) old plan).parts = omega (arith, counted, all, routers, parts_same) in
    subst (λ q. BeginFromStep (view n) old plan (Begun q parts) (view m)) (sym number_is) (subst (λ q. BeginFromStep (view n) old plan (Begun c.number q) (view m)) (sym parts_is)
    (step_to (view n) law.0 (view m) (after_begin (view n) old plan) (BeginFrom old plan) (Begun c.number (length (after_begin (view n) old plan).parts)) law.1 law.1.6 same))
course_from_steps n old plan (Refused NoNumber) m net left (peer, a, has, last, after) =
    let is = leader_is n peer a net has in
    refused_to n m (BeginFrom old plan) (Some NoNumber) NoNumber _ after (begins_from_by_step (view n) old plan a a (Err LeaderNoNumber) (leader_stands n peer a net has) is is left (last, refl)) refl
course_from_steps n old plan _ m net left h = absurd h

-- ---- once the course before is over

done_over : (n : NetValue) → IsNet n → IsDoneIn n → WorldOver (view n)
done_over n net (peer, a, has, finished) =
    over_seen (view n) a (leader_stands n peer a net has) (leader_is n peer a net has)
    (subst (IsOver a) (one_course (view n) a (leader_stands n peer a net has) (leader_is n peer a net has) finished.0 finished.1) finished.2)

-- its new plan has each key where it leaves it
done_left : (n : NetValue) → IsNet n → IsReached (view n) → IsDoneIn n → IsWhereLeft (view n) (newest_of n).new
done_left n net reached done = subst (λ (d : Change). IsWhereLeft (view n) d.new) (last_seen n net) (over_left (view n) reached (done_over n net done))

pub begin_keeps : (n : NetValue) (plan : List PlanRange) (answer : Answer) (m : NetValue) → IsNet n → IsBeginIn n plan (Ok answer) m → IsNet m
begin_keeps n plan (Refused Running) m net (peer, a, has, running, after) = subst IsNet (sym after) net
begin_keeps n plan (Refused NoNumber) m net h = course_keeps n (newest_of n).new plan (Refused NoNumber) m net h.1
begin_keeps n plan (Begun number parts) m net h = course_keeps n (newest_of n).new plan (Begun number parts) m net h.1
begin_keeps n plan _ m net h = absurd h.1

-- a course that begins from where the one before ended begins from the newest plan
from_newest : (n : NetValue) (plan : List PlanRange) (answer : Answer) (v : WorldValue) → IsNet n → IsReached (view n) → IsDoneIn n → BeginFromStep (view n) (newest_of n).new plan answer v → BeginStep (view n) plan answer v
from_newest n plan (Begun number parts) v net reached done h =
    (done_over n net done, h.1, h.3, h.4, subst (λ p. parts ≡ length (after_begin (view n) p plan).parts) newest h.5, subst (λ p. SameWorld v (after_begin (view n) p plan)) newest h.6)
  where
    newest : (newest_of n).new ≡ (view n).new (view n).last
    newest = sym (ap (λ (d : Change). d.new) (last_seen n net))
from_newest n plan (Refused Running) v net reached done h = absurd (h.0 (done_left n net reached done))
from_newest n plan (Refused NoNumber) v net reached done h = (done_over n net done, h.1, h.2)
from_newest n plan _ v net reached done h = absurd h

pub begin_steps : (n : NetValue) (plan : List PlanRange) (answer : Answer) (m : NetValue) → IsNet n → IsReached (view n) → IsBeginIn n plan (Ok answer) m → BeginStep (view n) plan answer (view m)
begin_steps n plan (Refused Running) m net reached (peer, a, has, running, after) =
    let last = leads_last n peer a net has in
    let is = leader_is n peer a net has in
    refused_to n m (Begin plan) (Some Running) Running _ after (begins_by_step (view n) plan a a (Err LeaderRunning) (leader_stands n peer a net has) is is ((newest_of n, last, λ (over : IsOver a (newest_of n)). running (newest_of n, last, over)), refl)) refl
begin_steps n plan (Refused NoNumber) m net reached h =
    from_newest n plan (Refused NoNumber) (view m) net reached h.0 (course_from_steps n (newest_of n).new plan (Refused NoNumber) m net (done_left n net reached h.0) h.1)
begin_steps n plan (Begun number parts) m net reached h =
    from_newest n plan (Begun number parts) (view m) net reached h.0 (course_from_steps n (newest_of n).new plan (Begun number parts) m net (done_left n net reached h.0) h.1)
begin_steps n plan _ m net reached h = absurd h.1
