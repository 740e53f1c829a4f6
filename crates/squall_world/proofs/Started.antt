-- The world as it begins.
use Rattle.std.proofs.Common.{◌≡◌, ℕ, zero, suc, ◌+◌, ◌<◌, ◌≤◌, ◌==◌, ◌&&◌, ◌||◌, nat_lt, Bool, true, false, cond, List, [], ◌∷◌, ◌++◌, length, map, Option, None, Some, position, refl, sym, ap, subst, ◌∙◌, arith, inl, inr}
use Rattle.std.specs.Prelude.{is_some}
use Rattle.std.specs.List.{slice_get, flat_map, list_any, filter, range_with_len, AllByRecursion}
use Rattle.std.proofs.lemmas.Bool.Decides.{nat_tests}
use Rattle.std.proofs.lemmas.Bool.{or_cases, and_parts}
use Rattle.std.proofs.lemmas.List.{length-append, length-map}
use Rattle.std.proofs.lemmas.List.Folds.{list_any-append}
use Rattle.std.proofs.lemmas.List.FromFn.{length-range_with_len}
use Rattle.std.proofs.lemmas.Option.{none-some}
use Rattle.squall_key.specs.Keys.{top, part_limit}
use Rattle.squall_plan.specs.declared.range.PlanRange.{PlanRange}
use Rattle.squall_plan.specs.Ranges.{names, owner_of}
use Rattle.squall_plan.proofs.Named.{named_low, owner_named}
use Rattle.squall_course.specs.Change.{Change, ArePlans}
use Rattle.squall_course.proofs.Rising.{filter_up, in_filter}
use Rattle.squall_join.specs.declared.flat.Flat.TheVariants.{One}
use Rattle.squall_report.specs.Issues.{plan_pair}
use Rattle.squall_report.specs.Queries.{Queries, SameQueries, no_queries, joined_queries, issued_queries}
use Rattle.squall_board.specs.Boards.{IsBoard, empty_board, report_board}
use Rattle.squall_board.specs.BoardQueries.{queries_of}
use Rattle.squall_board.specs.BoardLaws.{empty_is, issue_board_is}
use Rattle.squall_router.specs.Routers.{router_with}
use Rattle.squall_leader.specs.Leaders.{IsLeader, new_leader, issue_report}
use Rattle.squall_protocol.specs.declared.event.Node.{Node}
use Rattle.squall_protocol.specs.declared.event.Node.TheVariants.{Leader, Part, Router}
use Rattle.squall_protocol.specs.Worlds.{SameWorld, start, first_parts, first_facts}
use Rattle.squall_protocol.specs.WorldLaws.{reached_start}
use Rattle.squall_world.specs.declared.peer.Role.TheVariants.{Leader as LeaderRole, Router as RouterRole}
use Rattle.squall_world.specs.Nets.{PeerValue, NetValue, IsNet, IsRole, IsRouterAt, ArePlaced, new_peer, place_of, peer_of, at_place, is_part_peer}
use Rattle.squall_world.specs.Views.{view, id_of, ids_in, part_of, facts_of, held_by, closed_under, given_under, loaded_under}
use Rattle.squall_world.specs.Runs.{IsWorld}
use Rattle.squall_world.specs.Events.{IsFirstNet, first_course_of, first_leader, leader_peer, router_peers, part_peers}
use Rattle.squall_world.proofs.Lists.{eq_same, flat_append, get_left, place_is}
use Rattle.squall_nodes.proofs.Agree.{queries_report, same_by}
use Rattle.squall_world.proofs.History.{IsHistory, IsNew, history_new, history_more, more_reported}
use Rattle.squall_nodes.proofs.Begins.{none_closed, none_given, none_loaded}
use Rattle.squall_nodes.proofs.Owned.{owned}
use Rattle.squall_world.proofs.Coming.{comer, any_comer, ids_come, comes, comer_stands, comers_new}

below : (a b : ℕ) → nat_lt a b ≡ true → a < b
below a b e = grind (arith, nat_tests)

-- ---- routers

router_at : (c : Change) (xs : List ℕ) (j : ℕ) → j < length xs → slice_get (map (λ r. new_peer (RouterRole (router_with c empty_board))) xs) j ≡ Some (new_peer (RouterRole (router_with c empty_board)))
router_at c [] j lt = absurd (omega (arith, lt))
router_at c (x ∷ xs) zero lt = refl
router_at c (x ∷ xs) (suc j) lt = router_at c xs j (omega (arith, lt))

routers_new : (c : Change) (xs : List ℕ) (qs : List PeerValue) → AllByRecursion (λ p. IsRole p.role) (map (λ r. new_peer (RouterRole (router_with c empty_board))) xs ++ qs) → AllByRecursion IsNew qs → AllByRecursion IsNew (map (λ r. new_peer (RouterRole (router_with c empty_board))) xs ++ qs)
routers_new c [] qs valid new = new
routers_new c (x ∷ xs) qs valid new = (record { role = valid.0; board = refl; reports = refl; known = refl; extra = refl }, routers_new c xs qs valid.1 new)

all_rest : (P : PeerValue → Type 0) (xs ys : List PeerValue) → AllByRecursion P (xs ++ ys) → AllByRecursion P ys
all_rest P [] ys all = all
all_rest P (x ∷ xs) ys all = all_rest P xs ys all.1

no_router_part : (c : Change) (p : ℕ) (xs : List ℕ) → list_any (is_part_peer p) (map (λ r. new_peer (RouterRole (router_with c empty_board))) xs) ≡ false
no_router_part c p [] = refl
no_router_part c p (x ∷ xs) = no_router_part c p xs

no_router_ids : (c : Change) (xs : List ℕ) → flat_map (λ (x : PeerValue). id_of x.role) (map (λ r. new_peer (RouterRole (router_with c empty_board))) xs) ≡ []
no_router_ids c [] = refl
no_router_ids c (x ∷ xs) = no_router_ids c xs

-- a test that passes nowhere finds no place
pub nowhere : {A : Type 0} (p : A → Bool) (xs : List A) → list_any p xs ≡ false → position p xs ≡ None
nowhere p xs e = by (position p xs) (sym (place_is p xs) ∙ e)
  where
    by : (o : Option ℕ) → is_some o ≡ false → o ≡ None
    by None e = refl
    by (Some i) e = absurd (let bad : ⊥ = cc in bad)

-- ---- the partitions that either plan names

ids_low : (test : ℕ → Bool) (a n : ℕ) → AllByRecursion (λ p. p < a + n) (filter test (range_with_len a n))
ids_low test a zero = tt
ids_low test a (suc n) = by (test a) (subst (λ v. AllByRecursion (λ p. p < v) (filter test (range_with_len (a + 1) n))) (omega arith) (ids_low test (a + 1) n))
  where
    by : (b : Bool) → AllByRecursion (λ p. p < a + suc n) (filter test (range_with_len (a + 1) n)) → AllByRecursion (λ p. p < a + suc n) (cond b (a ∷ filter test (range_with_len (a + 1) n)) (filter test (range_with_len (a + 1) n)))
    by true rest = (omega arith, rest)
    by false rest = rest

pub low_ids : (test : ℕ → Bool) → AllByRecursion (λ p. p < part_limit) (filter test (range_with_len 0 part_limit))
low_ids test = ids_low test 0 part_limit

named_first : (old new : List PlanRange) (p : ℕ) → ArePlans old new → list_any (λ q. q == p) (first_parts old new) ≡ (names old p || names new p)
named_first old new p plans = in_filter (λ q. names old q || names new q) part_limit p low
  where
    low : (names old p || names new p) ≡ true → p < part_limit
    low either = elim (or_cases (names old p) (names new p) either) [
      | inl first ↦ named_low old p plans.old_ranges first
      | inr second ↦ named_low new p plans.new_ranges second
    ]

-- ---- nothing told, given or loaded

no_history : IsHistory [] []
no_history = record {
  peers = tt;
  knowing = λ i p e. absurd (none-some p e);
  messages = tt;
}

pub none_told : queries_of empty_board ≡ no_queries
none_told = refl

-- ---- the first net

abbrev net_with : List PlanRange → List PlanRange → ℕ → List (Option ℕ) → NetValue
net_with old new count places =
    record {
      courses = first_course_of old new ∷ [];
      ended = [];
      peers = leader_peer old new ∷ (router_peers (first_course_of old new) count ++ part_peers (first_course_of old new) (first_parts old new));
      routers = count;
      places = places;
      messages = [];
      chunks = [];
    }

net_is : (old new : List PlanRange) (count : ℕ) (m : NetValue) → IsFirstNet old new count (first_parts old new) m → m ≡ net_with old new count m.places
net_is old new count m is = λ i. record { courses = is.courses i; ended = is.ended i; peers = is.peers i; routers = is.routers i; places = m.places; messages = is.messages i; chunks = is.chunks i }

module _ (old new : List PlanRange) (count : ℕ) (places : List (Option ℕ)) (plans : ArePlans old new) (valid : AllByRecursion (λ p. IsRole p.role) (net_with old new count places).peers) where
  -- the nodes before the partitions
  front_none : (p : ℕ) → position (is_part_peer p) (leader_peer old new ∷ router_peers (first_course_of old new) count) ≡ None
  front_none p = nowhere (is_part_peer p) (leader_peer old new ∷ router_peers (first_course_of old new) count) (no_router_part (first_course_of old new) p (range_with_len 0 count))

  front_count : length (router_peers (first_course_of old new) count) ≡ count
  front_count = length-map (range_with_len 0 count) (λ r. new_peer (RouterRole (router_with (first_course_of old new) empty_board))) ∙ length-range_with_len 0 count

  peer_is : (p : ℕ) → peer_of (net_with old new count places) (Part p) ≡ cond (list_any (λ q. q == p) (first_parts old new)) (Some (comer (first_course_of old new) p)) None
  peer_is p = comes (leader_peer old new ∷ router_peers (first_course_of old new) count) (first_course_of old new) (first_parts old new) p (front_none p)

  -- ---- what always holds

  idle_is : IsLeader (new_leader old 0)
  idle_is = record {
    board = empty_is;
    canonical = plans.old_canonical;
    ranges = plans.old_ranges;
    course = λ c e. absurd (none-some c e);
    numbered = λ c e. absurd (none-some c e);
    plans = λ c e. absurd (none-some c e);
    opened = λ c e. absurd (none-some c e);
  }

  issue_is : IsBoard (report_board (issue_report (first_course_of old new)))
  issue_is = issue_board_is 1 (One (plan_pair old new)) (omega arith)

  rest_new : AllByRecursion IsNew (router_peers (first_course_of old new) count ++ part_peers (first_course_of old new) (first_parts old new))
  rest_new = routers_new (first_course_of old new) (range_with_len 0 count) (part_peers (first_course_of old new) (first_parts old new)) valid.1
      (comers_new (first_course_of old new) (first_parts old new) (all_rest (λ p. IsRole p.role) (router_peers (first_course_of old new) count) (part_peers (first_course_of old new) (first_parts old new)) valid.1))

  -- the leader took in its issue, and no other anything
  history : IsHistory (net_with old new count places).peers []
  history =
      let rest = router_peers (first_course_of old new) count ++ part_peers (first_course_of old new) (first_parts old new) in
      let idle = new_peer (LeaderRole (new_leader old 0)) in
      let base : IsHistory (idle ∷ rest) [] = history_new [] (idle ∷ rest) [] no_history (record { role = idle_is; board = refl; reports = refl; known = refl; extra = refl }, rest_new) in
      history_more (idle ∷ rest) [] 0 idle (leader_peer old new) base
      (more_reported (idle ∷ rest) [] 0 idle (LeaderRole (first_leader old new)) (issue_report (first_course_of old new)) base refl valid.0 issue_is refl)

  router_stands : (i : ℕ) → 0 < i → i ≤ count → IsRouterAt (net_with old new count places) i
  router_stands zero some le = absurd (omega (arith, some))
  router_stands (suc i) some le = record {
    peer = new_peer (RouterRole (router_with (first_course_of old new) empty_board));
    router = router_with (first_course_of old new) empty_board;
    there = get_left (router_peers (first_course_of old new) count) (part_peers (first_course_of old new) (first_parts old new)) i (let k = front_count in omega (arith, le, k))
        ∙ router_at (first_course_of old new) (range_with_len 0 count) i (let k = length-range_with_len 0 count in omega (arith, le, k));
    role = refl;
    first = refl;
  }

  is_named : (p : ℕ) → names old p ≡ true → is_some (place_of (net_with old new count places) (Part p)) ≡ true
  is_named p e =
      let front = leader_peer old new ∷ router_peers (first_course_of old new) count in
      let come = part_peers (first_course_of old new) (first_parts old new) in
      sym (place_is (is_part_peer p) (front ++ come))
      ∙ list_any-append (is_part_peer p) front come
      ∙ ap (λ b. list_any (is_part_peer p) front || b) (any_comer (first_course_of old new) (first_parts old new) p ∙ named_first old new p plans ∙ ap (λ b. b || names new p) e)
      ∙ either (list_any (is_part_peer p) front)
    where
      either : (b : Bool) → (b || true) ≡ true
      either true = refl
      either false = refl

  pub first_net : ArePlaced (net_with old new count places) → IsNet (net_with old new count places)
  first_net placed = record {
    some = omega arith;
    chain = (refl, plans, tt);
    ended = refl;
    led = record { peer = leader_peer old new; leader = first_leader old new; there = refl; role = refl; course = refl };
    room = (let k = front_count in let l = length-append (router_peers (first_course_of old new) count) (part_peers (first_course_of old new) (first_parts old new)) in omega (arith, k, l));
    routers = router_stands;
    parts = λ i gt lt. comer_stands (net_with old new count places) (leader_peer old new ∷ router_peers (first_course_of old new) count) (first_course_of old new) (first_parts old new) i refl refl
        (filter_up (λ p. names old p || names new p) 0 part_limit)
        (low_ids (λ p. names old p || names new p))
        (λ p here. front_none p)
        (let k = front_count in omega (arith, gt, k))
        lt;
    named = is_named;
    placed = placed;
    peers = history.peers;
    knowing = history.knowing;
    messages = tt;
  }

  -- ---- what is seen

  ids_are : ids_in (net_with old new count places) ≡ first_parts old new
  ids_are =
      flat_append (λ (x : PeerValue). id_of x.role) (router_peers (first_course_of old new) count) (part_peers (first_course_of old new) (first_parts old new))
      ∙ ap (λ l. l ++ flat_map (λ (x : PeerValue). id_of x.role) (part_peers (first_course_of old new) (first_parts old new))) (no_router_ids (first_course_of old new) (range_with_len 0 count))
      ∙ ids_come (first_course_of old new) (first_parts old new)

  held_is : (p k : ℕ) → held_by (part_of (peer_of (net_with old new count places) (Part p))) k ≡ (nat_lt k top && (owner_of old k == p))
  held_is p k = ap (λ o. held_by (part_of o) k) (peer_is p) ∙ by (list_any (λ q. q == p) (first_parts old new)) refl
    where
      unowned : (b : Bool) → (nat_lt k top && (owner_of old k == p)) ≡ b → list_any (λ q. q == p) (first_parts old new) ≡ false → b ≡ false
      unowned false e none = refl
      unowned true e none =
          let parts = and_parts (nat_lt k top) (owner_of old k == p) e in
          let low : k < top = below k top parts.0 in
          let owner : owner_of old k ≡ p = eq_same (owner_of old k) p parts.1 in
          let named : names old p ≡ true = ap (names old) (sym owner) ∙ owner_named 0 k old plans.old_canonical.tiles (omega arith) low in
          let bad : true ≡ false = sym (ap (λ b. b || names new p) named) ∙ sym (named_first old new p plans) ∙ none in
          bad

      by : (b : Bool) → list_any (λ q. q == p) (first_parts old new) ≡ b → held_by (part_of (cond b (Some (comer (first_course_of old new) p)) None)) k ≡ (nat_lt k top && (owner_of old k == p))
      by true e = owned p k old plans.old_canonical.tiles
      by false e = sym (unowned (nat_lt k top && (owner_of old k == p)) refl e)

  closed_is : (m p : ℕ) → closed_under (part_of (peer_of (net_with old new count places) (Part p))) m ≡ false
  closed_is m p = ap (λ o. closed_under (part_of o) m) (peer_is p) ∙ by (list_any (λ q. q == p) (first_parts old new))
    where
      by : (b : Bool) → closed_under (part_of (cond b (Some (comer (first_course_of old new) p)) None)) m ≡ false
      by true = none_closed (first_course_of old new) p m
      by false = refl

  given_is : (m p k : ℕ) → given_under (part_of (peer_of (net_with old new count places) (Part p))) m k ≡ false
  given_is m p k = ap (λ o. given_under (part_of o) m k) (peer_is p) ∙ by (list_any (λ q. q == p) (first_parts old new))
    where
      by : (b : Bool) → given_under (part_of (cond b (Some (comer (first_course_of old new) p)) None)) m k ≡ false
      by true = none_given (first_course_of old new) p m k
      by false = refl

  loaded_is : (m p k : ℕ) → loaded_under (part_of (peer_of (net_with old new count places) (Part p))) m k ≡ false
  loaded_is m p k = ap (λ o. loaded_under (part_of o) m k) (peer_is p) ∙ by (list_any (λ q. q == p) (first_parts old new))
    where
      by : (b : Bool) → loaded_under (part_of (cond b (Some (comer (first_course_of old new) p)) None)) m k ≡ false
      by true = none_loaded (first_course_of old new) p m k
      by false = refl

  told_none : (p : ℕ) → SameQueries (facts_of (peer_of (net_with old new count places) (Part p))) no_queries
  told_none p = same_by _ _ (ap facts_of (peer_is p) ∙ by (list_any (λ q. q == p) (first_parts old new)))
    where
      by : (b : Bool) → facts_of (cond b (Some (comer (first_course_of old new) p)) None) ≡ no_queries
      by true = none_told
      by false = refl

  told_router : (r : ℕ) → SameQueries (facts_of (peer_of (net_with old new count places) (Router r))) no_queries
  told_router r = same_by _ _ (by (nat_lt r count) refl)
    where
      by : (b : Bool) → nat_lt r count ≡ b → facts_of (at_place (net_with old new count places).peers (cond b (Some (r + 1)) None)) ≡ no_queries
      by false e = refl
      by true e =
          let lt : r < count = below r count e in
          let next : r + 1 ≡ suc r = omega arith in
          ap (λ i. facts_of (slice_get (net_with old new count places).peers i)) next
          ∙ ap facts_of (get_left (router_peers (first_course_of old new) count) (part_peers (first_course_of old new) (first_parts old new)) r (let k = front_count in omega (arith, lt, k)) ∙ router_at (first_course_of old new) (range_with_len 0 count) r (let k = length-range_with_len 0 count in omega (arith, lt, k)))
          ∙ none_told

  told_issue : SameQueries (queries_of (first_leader old new).board) (issued_queries 1 (plan_pair old new))
  told_issue =
      let e : queries_of (first_leader old new).board ≡ joined_queries (queries_of empty_board) (issued_queries 1 (plan_pair old new)) = queries_report empty_board (issue_report (first_course_of old new)) empty_is issue_is in
      record {
        loaded = λ c k. ap (λ (t : Queries). t.loaded c k) e;
        done = λ c. ap (λ (t : Queries). t.done c) e;
        opened = λ n. ap (λ (t : Queries). t.opened n) e;
        issued = λ n. ap (λ (t : Queries). t.issued n) e;
      }

  told_first : (node : Node) → SameQueries (facts_of (peer_of (net_with old new count places) node)) (first_facts old new node)
  told_first Leader = told_issue
  told_first (Part p) = told_none p
  told_first (Router r) = told_router r

  none_either : (t : Bool) → cond {A = ℕ} t 0 0 ≡ 0
  none_either true = refl
  none_either false = refl

  pub first_world : SameWorld (view (net_with old new count places)) (start old new count)
  first_world = record {
    old = old_is;
    new = new_is;
    last = refl;
    opened = none_opened;
    parts = ids_are;
    routers = refl;
    held = held_is;
    closed = closed_is;
    given = given_is;
    loaded = loaded_is;
    facts = told_first;
    messages = refl;
    chunks = refl;
  }
    where
      old_is : (i : ℕ) → (view (net_with old new count places)).old i ≡ old
      old_is zero = refl
      old_is (suc zero) = refl
      old_is (suc (suc i)) = refl

      new_is : (i : ℕ) → (view (net_with old new count places)).new i ≡ new
      new_is zero = refl
      new_is (suc zero) = refl
      new_is (suc (suc i)) = refl

      none_opened : (i : ℕ) → (view (net_with old new count places)).opened i ≡ 0
      none_opened zero = refl
      none_opened (suc zero) = refl
      none_opened (suc (suc i)) = none_either (suc i == 0)

-- the leader that is there has begun a course between plans
plans_of : (old new : List PlanRange) (count : ℕ) (places : List (Option ℕ)) → AllByRecursion (λ p. IsRole p.role) (net_with old new count places).peers → ArePlans old new
plans_of old new count places valid = valid.0.plans (first_course_of old new) refl

pub first_is_net : (old new : List PlanRange) (count : ℕ) (m : NetValue) → IsFirstNet old new count (first_parts old new) m → IsNet m
first_is_net old new count m is =
    let e : m ≡ net_with old new count m.places = net_is old new count m is in
    let valid = subst (λ n. AllByRecursion (λ p. IsRole p.role) n.peers) e is.valid in
    subst IsNet (sym e) (first_net old new count m.places (plans_of old new count m.places valid) valid (subst ArePlaced e is.placed))

pub first_is_start : (old new : List PlanRange) (count : ℕ) (m : NetValue) → IsFirstNet old new count (first_parts old new) m → SameWorld (view m) (start old new count)
first_is_start old new count m is =
    let e : m ≡ net_with old new count m.places = net_is old new count m is in
    let valid = subst (λ n. AllByRecursion (λ p. IsRole p.role) n.peers) e is.valid in
    subst (λ n. SameWorld (view n) (start old new count)) (sym e) (first_world old new count m.places (plans_of old new count m.places valid) valid)

-- a run with no event leads to it
pub first_is_world : (old new : List PlanRange) (count : ℕ) (m : NetValue) → IsFirstNet old new count (first_parts old new) m → IsWorld m
first_is_world old new count m is =
    let e : m ≡ net_with old new count m.places = net_is old new count m is in
    let plans = plans_of old new count m.places (subst (λ n. AllByRecursion (λ p. IsRole p.role) n.peers) e is.valid) in
    record {
      net = first_is_net old new count m is;
      reached = reached_start old new count (view m) (record { canonical = plans.old_canonical; ranges = plans.old_ranges }) (record { canonical = plans.new_canonical; ranges = plans.new_ranges }) (first_is_start old new count m is);
    }
