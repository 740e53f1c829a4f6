-- Messages are sent and come to nodes: the steps of the world.
use Rattle.std.proofs.Common.{◌≡◌, ℕ, Bool, true, false, cond, List, [], ◌∷◌, ◌++◌, length, get_or, map, Some, option_map, Ok, refl, sym, ap, subst, ◌∙◌, inl, inr}
use Rattle.std.specs.List.{slice_get}
use Rattle.std.proofs.lemmas.List.{length-map}
use Rattle.std.proofs.lemmas.Option.{slice_get-map}
use Rattle.squall_span.specs.Spans.{has}
use Rattle.squall_report.specs.declared.report.ReportKind.{ReportKind}
use Rattle.squall_report.specs.Issues.{PlanPair}
use Rattle.squall_report.specs.Queries.{Queries, joined_queries}
use Rattle.squall_board.specs.Boards.{BoardValue, IsBoard, board_join, empty_board}
use Rattle.squall_board.specs.BoardLaws.{join_is}
use Rattle.squall_board.specs.BoardQueries.{queries_of}
use Rattle.squall_protocol.specs.declared.event.Node.{Node}
use Rattle.squall_protocol.specs.declared.answer.Answer.{Answer}
use Rattle.squall_protocol.specs.declared.answer.Answer.TheVariants.{Sent, Delivered, Refused}
use Rattle.squall_protocol.specs.Worlds.{SameWorld, same_node}
use Rattle.squall_protocol.specs.Steps.{told_to, after_told, IsPartOf, SendStep, SendPartStep, DeliverStep}
use Rattle.squall_protocol.specs.Promises.{Happened, TrueReports}
use Rattle.squall_world.specs.declared.peer.Role.{Role}
use Rattle.squall_world.specs.declared.peer.Role.TheVariants.{Leader as LeaderRole, Part as PartRole, Router as RouterRole}
use Rattle.squall_world.specs.Nets.{PeerValue, NetValue, MessageValue, message_with, IsNet, IsPeer, IsKnowing, IsMessage, IsRole, AreWithin, with_peer, told_from, told_with, news_to, is_behind, place_of, peer_of, role_board, part_in, leader_in}
use Rattle.squall_world.specs.Views.{view, held_by, closed_under, given_under, loaded_under, opened_by, facts_of, told_by_message}
use Rattle.squall_world.specs.Events.{KnowsAll, IsOld, news_of, IsTold, IsHearing, IsSendIn, IsSendPartIn, IsDeliverIn}
use Rattle.squall_world.proofs.Lists.{all_at, all_append, map_append}
use Rattle.squall_world.proofs.Nodes.{IsChanged, node_there, no_node, same_is}
use Rattle.squall_nodes.proofs.Agree.{queries_join, same_self, same_by}
use Rattle.squall_world.proofs.Boards.{AreBoards, none_join, covers_on, covers_first, covers_both, join_four}
use Rattle.squall_world.proofs.Covered.{part_of, tells_part, told_one, all_covered}
use Rattle.squall_world.proofs.Told.{AreMade, told_is, told_none, told_more, news_is, told_news, told_raised, told_behind, within_more, within_raised, raised_own}
use Rattle.squall_world.proofs.History.{IsMore, history_of, made_of, board_is, no_fewer}
use Rattle.squall_world.proofs.Kept.{SameKind, changed, changed_net, rest_net}
use Rattle.squall_world.proofs.Seen.{peer_there, ids_kept, counts_kept, facts_told, parts_kept, messages_kept, still}

-- ---- sending

message_tells : (n : NetValue) (node : Node) (from : ℕ) (peer : PeerValue) → IsNet n → place_of n node ≡ Some from → slice_get n.peers from ≡ Some peer → told_by_message n (message_with peer.known peer.extra) ≡ facts_of (peer_of n node)
message_tells n node from peer net place there =
    ap queries_of (sym (net.knowing from peer there).board) ∙ ap facts_of (sym (peer_there n node from peer place there))

-- one more message
with_message : (n : NetValue) (x : MessageValue) → IsNet n → IsMessage n.peers x → IsNet (record n { messages = n.messages ++ x ∷ [] })
with_message n x net is =
    let h = history_of n net in
    rest_net n (n.messages ++ x ∷ []) n.chunks net (record { peers = h.peers; knowing = h.knowing; messages = all_append (IsMessage n.peers) n.messages (x ∷ []) h.messages (is, tt) })

-- it is seen as what it tells
message_seen : (n : NetValue) (x : MessageValue) (said : Queries) → told_by_message n x ≡ said → SameWorld (view (record n { messages = n.messages ++ x ∷ [] })) (record (view n) { messages = (view n).messages ++ said ∷ [] })
message_seen n x said tells = record {
  old = λ k. refl;
  new = λ k. refl;
  last = refl;
  opened = λ i. refl;
  parts = refl;
  routers = refl;
  held = λ p k. refl;
  closed = λ k p. refl;
  given = λ k p j. refl;
  loaded = λ k p j. refl;
  facts = λ y. same_self ((view n).facts y);
  messages = map_append (told_by_message n) n.messages (x ∷ []) ∙ ap (λ t. map (told_by_message n) n.messages ++ t ∷ []) tells;
  chunks = refl;
}

pub send_keeps : (n m : NetValue) (node : Node) (answer : Answer) → IsNet n → IsSendIn n node (Ok answer) m → IsNet m
send_keeps n m node (Sent i) net (from, peer, place, there, index, is) =
    subst IsNet (sym is) (with_message n (message_with peer.known peer.extra) net (record { within = (net.knowing from peer there).within; extra = (all_at IsPeer n.peers from peer net.peers there).extra }))
send_keeps n m node (Refused e) net none = subst IsNet (sym none.2) net
send_keeps n m node answer net is = absurd is

pub send_steps : (n m : NetValue) (node : Node) (answer : Answer) → IsNet n → IsSendIn n node (Ok answer) m → SendStep (view n) node answer (view m)
send_steps n m node (Sent i) net (from, peer, place, there, index, is) = (
  node_there n node from place,
  index ∙ sym (length-map n.messages (told_by_message n)),
  subst (λ v. SameWorld (view v) (record (view n) { messages = (view n).messages ++ (view n).facts node ∷ [] })) (sym is)
      (message_seen n (message_with peer.known peer.extra) ((view n).facts node) (message_tells n node from peer net place there)),
)
send_steps n m node (Refused e) net (none, r, same) = subst (λ v. SendStep (view n) node (Refused v) (view m)) (sym r) (no_node n node none, still n m same)
send_steps n m node answer net is = absurd is

-- ---- sending a part

pub send_part_keeps : (n m : NetValue) (node : Node) (said : BoardValue) (answer : Answer) → IsNet n → IsSendPartIn n node said (Ok answer) m → IsNet m
send_part_keeps n m node said (Sent i) net (from, peer, place, there, knows, board, index, is) = subst IsNet (sym is) (with_message n (message_with [] said) net (record { within = tt; extra = board }))
send_part_keeps n m node said (Refused e) net (inl none) = subst IsNet (sym none.2) net
send_part_keeps n m node said (Refused e) net (inr (from, peer, place, there, not, r, same)) = subst IsNet (sym same) net
send_part_keeps n m node said answer net is = absurd is

-- it tells what the board tells
part_tells : (n : NetValue) (said : BoardValue) → IsBoard said → told_by_message n (message_with [] said) ≡ queries_of said
part_tells n said board = ap (λ v. queries_of (board_join v said)) (told_none n.peers) ∙ ap queries_of (none_join said board)

-- where nothing clashes, a node knows all that a board tells if and only if the board is a part of what is seen of the node
module _ (n : NetValue) (node : Node) (from : ℕ) (peer : PeerValue) (said : BoardValue) (place : place_of n node ≡ Some from) (there : slice_get n.peers from ≡ Some peer) where
  seen : facts_of (peer_of n node) ≡ queries_of (role_board peer.role)
  seen = ap facts_of (peer_there n node from peer place there)

  known_part : TrueReports (view n) → KnowsAll peer said → IsPartOf (queries_of said) ((view n).facts node)
  known_part true_reports knows =
      subst (IsPartOf (queries_of said)) (sym seen) (part_of (role_board peer.role) said (λ k. told_one (view n) (queries_of (role_board peer.role)) k (subst (Happened (view n)) seen (true_reports node))) knows)

  part_known : IsPartOf (queries_of said) ((view n).facts node) → KnowsAll peer said
  part_known part = tells_part (role_board peer.role) said (subst (IsPartOf (queries_of said)) seen part)

pub send_part_steps : (n m : NetValue) (node : Node) (said : BoardValue) (answer : Answer) → IsNet n → TrueReports (view n) → IsSendPartIn n node said (Ok answer) m → SendPartStep (view n) node said answer (view m)
send_part_steps n m node said (Sent i) net true_reports (from, peer, place, there, knows, board, index, is) = (
  node_there n node from place,
  known_part n node from peer said place there true_reports knows,
  index ∙ sym (length-map n.messages (told_by_message n)),
  subst (λ v. SameWorld (view v) (record (view n) { messages = (view n).messages ++ queries_of said ∷ [] })) (sym is) (message_seen n (message_with [] said) (queries_of said) (part_tells n said board)),
)
send_part_steps n m node said (Refused e) net true_reports (inl (none, r, same)) = subst (λ v. SendPartStep (view n) node said (Refused v) (view m)) (sym r) (no_node n node none, still n m same)
send_part_steps n m node said (Refused e) net true_reports (inr (from, peer, place, there, not, r, same)) =
    subst (λ v. SendPartStep (view n) node said (Refused v) (view m)) (sym r) (node_there n node from place, (λ part. not (part_known n node from peer said place there part)), still n m same)
send_part_steps n m node said answer net true_reports is = absurd is

-- ---- taking a board in

told_kind : (r s : Role) (d : BoardValue) → IsTold r d s → SameKind r s
told_kind (LeaderRole a) (LeaderRole b) d t = ap (λ v. v.course) t.0
told_kind (LeaderRole a) (PartRole b) d t = absurd t
told_kind (LeaderRole a) (RouterRole b) d t = absurd t
told_kind (PartRole a) (LeaderRole b) d t = absurd t
told_kind (PartRole a) (PartRole b) d t = (ap (λ v. v.id) t.1, ap (λ v. v.first) t.1)
told_kind (PartRole a) (RouterRole b) d t = absurd t
told_kind (RouterRole a) (LeaderRole b) d t = absurd t
told_kind (RouterRole a) (PartRole b) d t = absurd t
told_kind (RouterRole a) (RouterRole b) d t = ap (λ v. v.first) t.0

-- what else is kept, and what is new
record Kept (r s : Role) (d : BoardValue) : Type 0 where
  role : IsRole s
  board : role_board s ≡ board_join (role_board r) d
  opened : opened_by (leader_in s) ≡ opened_by (leader_in r)
  held : (k : ℕ) → held_by (part_in s) k ≡ held_by (part_in r) k
  closed : (m : ℕ) → closed_under (part_in s) m ≡ closed_under (part_in r) m
  given : (m k : ℕ) → given_under (part_in s) m k ≡ given_under (part_in r) m k
  loaded : (m k : ℕ) → loaded_under (part_in s) m k ≡ loaded_under (part_in r) m k

told_kept : (r s : Role) (d : BoardValue) → IsTold r d s → Kept r s d
told_kept (LeaderRole a) (LeaderRole b) d t = record { role = t.1; board = ap (λ v. v.board) t.0; opened = ap (λ v. v.opened) t.0; held = λ k. refl; closed = λ m. refl; given = λ m k. refl; loaded = λ m k. refl }
told_kept (LeaderRole a) (PartRole b) d t = absurd t
told_kept (LeaderRole a) (RouterRole b) d t = absurd t
told_kept (PartRole a) (LeaderRole b) d t = absurd t
told_kept (PartRole a) (PartRole b) d t = record { role = t.5; board = t.0; opened = refl; held = λ k. ap (λ v. has v.held k) t.1; closed = t.2; given = λ m k. ap (λ v. has v k) (t.3 m); loaded = λ m k. ap (λ v. has v k) (t.4 m) }
told_kept (PartRole a) (RouterRole b) d t = absurd t
told_kept (RouterRole a) (LeaderRole b) d t = absurd t
told_kept (RouterRole a) (PartRole b) d t = absurd t
told_kept (RouterRole a) (RouterRole b) d t = record { role = t.1; board = ap (λ v. v.board) t.0; opened = refl; held = λ k. refl; closed = λ m. refl; given = λ m k. refl; loaded = λ m k. refl }

-- ---- a message comes

-- the same reports, and none more
append_none : (rs : List (ReportKind PlanPair)) → rs ++ [] ≡ rs
append_none [] = refl
append_none (r ∷ rs) = ap (λ v. r ∷ v) (append_none rs)

module _ (n : NetValue) (node : Node) (at : ℕ) (x : MessageValue) (a : PeerValue) (net : IsNet n) (place : place_of n node ≡ Some at) (there : slice_get n.peers at ≡ Some a) (is : IsMessage n.peers x) where
  made : AreMade n.peers
  made = made_of n.peers net.peers

  knows : IsKnowing n.peers at a
  knows = net.knowing at a there

  board_a : IsBoard (role_board a.role)
  board_a = board_is n at a net there

  counted_board : (ks : List ℕ) → IsBoard (told_from n.peers ks)
  counted_board ks = told_is n.peers ks made

  -- what the message tells
  abbrev tells : BoardValue
  tells = told_with n.peers x.known x.extra

  told_board : IsBoard tells
  told_board = join_is (told_from n.peers x.known) x.extra (counted_board x.known) is.extra

  own_extra : IsBoard a.extra
  own_extra = (all_at IsPeer n.peers at a net.peers there).extra

  -- what it tells of reports is known
  reports_old : is_behind a.known x.known ≡ false → board_join (role_board a.role) (told_from n.peers x.known) ≡ role_board a.role
  reports_old old = ap (λ v. board_join v (told_from n.peers x.known)) knows.board
      ∙ covers_on (told_with n.peers a.known a.extra) (told_from n.peers a.known) (told_from n.peers x.known)
      (join_is (told_from n.peers a.known) a.extra (counted_board a.known) own_extra) (counted_board a.known) (counted_board x.known)
      (covers_first (told_from n.peers a.known) a.extra (counted_board a.known) own_extra) (told_behind n.peers a.known x.known made old)
      ∙ sym knows.board

  -- the message tells nothing new
  nothing_new : IsOld a x → board_join (role_board a.role) tells ≡ role_board a.role
  nothing_new old = covers_both (role_board a.role) (told_from n.peers x.known) x.extra board_a (counted_board x.known) is.extra (reports_old old.0) (all_covered (role_board a.role) x.extra board_a is.extra old.1)

  pub nothing_seen : IsOld a x → SameWorld (view n) (after_told (view n) node (told_by_message n x))
  nothing_seen old = record {
    old = λ k. refl;
    new = λ k. refl;
    last = refl;
    opened = λ i. refl;
    parts = refl;
    routers = refl;
    held = λ p k. refl;
    closed = λ k p. refl;
    given = λ k p j. refl;
    loaded = λ k p j. refl;
    facts = λ y. same_by (facts_of (peer_of n y)) (told_to (view n) node (told_by_message n x) y) (at_node y (same_node y node) refl);
    messages = refl;
    chunks = refl;
  }
    where
      at_node : (y : Node) (t : Bool) → same_node y node ≡ t → facts_of (peer_of n y) ≡ cond t (joined_queries (facts_of (peer_of n y)) (told_by_message n x)) (facts_of (peer_of n y))
      at_node y true e =
          let f : facts_of (peer_of n y) ≡ queries_of (role_board a.role) = ap (λ z. facts_of (peer_of n z)) (same_is y node e) ∙ ap facts_of (peer_there n node at a place there) in
          f ∙ ap queries_of (sym (nothing_new old)) ∙ queries_join (role_board a.role) tells board_a told_board
          ∙ (λ i. joined_queries (sym f i) (told_by_message n x))
      at_node y false e = refl

  module _ (c : PeerValue) (hears : IsHearing a (news_of n a x) x c) where
    kept : Kept a.role c.role (news_of n a x)
    kept = told_kept a.role c.role (news_of n a x) hears.told

    kind : SameKind a.role c.role
    kind = told_kind a.role c.role (news_of n a x) hears.told

    ch : IsChanged n node at a c
    ch = changed n node at a c place there kind

    valid : IsPeer c
    valid = record {
      role = kept.role;
      reports = subst AreBoards (sym hears.reports) (all_at IsPeer n.peers at a net.peers there).reports;
      extra = subst IsBoard (sym hears.extra) (join_is a.extra x.extra own_extra is.extra);
    }

    no_more : c.reports ≡ a.reports ++ []
    no_more = hears.reports ∙ sym (append_none a.reports)

    -- the reports of both, and all else of both
    sorted : (d : BoardValue) → IsBoard d → board_join (role_board a.role) (board_join d x.extra) ≡ board_join (board_join (told_from n.peers a.known) d) (board_join a.extra x.extra)
    sorted d board = ap (λ v. board_join v (board_join d x.extra)) knows.board ∙ join_four (told_from n.peers a.known) a.extra d x.extra (counted_board a.known) own_extra board is.extra

    by_message : role_board c.role ≡ board_join (role_board a.role) tells
    by_message =
        kept.board ∙ sorted (news_to empty_board n.peers a.known x.known) (news_is n.peers a.known x.known made)
        ∙ ap (λ v. board_join v (board_join a.extra x.extra)) (told_news n.peers a.known x.known made)
        ∙ sym (sorted (told_from n.peers x.known) (counted_board x.known))

    by_counts : role_board c.role ≡ told_with n.peers c.known c.extra
    by_counts =
        by_message ∙ sorted (told_from n.peers x.known) (counted_board x.known)
        ∙ ap (λ v. board_join v (board_join a.extra x.extra)) (sym (told_raised n.peers a.known x.known made))
        ∙ λ i. told_with n.peers (sym hears.known i) (sym hears.extra i)

    within_c : AreWithin n.peers c.known
    within_c = subst (AreWithin n.peers) (sym hears.known) (within_raised n.peers a.known x.known knows.within is.within)

    more : IsMore n.peers at a c
    more = record {
      there = there;
      valid = valid;
      more = [];
      reports = no_more;
      knows = record {
        within = within_more at n.peers c.known a c there (no_fewer a c [] no_more) within_c;
        board = by_counts ∙ ap (λ v. board_join v c.extra) (sym (told_more at n.peers c.known a c [] there no_more within_c));
        own = ap (λ v. get_or v at 0) hears.known ∙ raised_own at n.peers a.known x.known a there is.within knows.own ∙ ap length (sym hears.reports);
      };
    }

    pub heard_net : IsNet (with_peer n at c)
    heard_net = changed_net n node at a c net ch kind more

    pub heard_seen : SameWorld (view (with_peer n at c)) (after_told (view n) node (told_by_message n x))
    heard_seen = record {
      old = λ k. refl;
      new = λ k. refl;
      last = refl;
      opened = λ i. counts_kept n node at a c net ch kept.opened i;
      parts = ids_kept n node at a c net ch;
      routers = refl;
      held = λ q k. parts_kept n node at a c net ch (λ o. held_by o k) (kept.held k) q;
      closed = λ m q. parts_kept n node at a c net ch (λ o. closed_under o m) (kept.closed m) q;
      given = λ m q k. parts_kept n node at a c net ch (λ o. given_under o m k) (kept.given m k) q;
      loaded = λ m q k. parts_kept n node at a c net ch (λ o. loaded_under o m k) (kept.loaded m k) q;
      facts = λ y. facts_told n node at a c net ch (told_by_message n x) (ap queries_of by_message ∙ queries_join (role_board a.role) tells board_a told_board) y;
      messages = messages_kept n node at a c net ch [] no_more n.messages net.messages;
      chunks = refl;
    }

-- ---- the steps

-- what holds of a message that is there
message_is : (n : NetValue) (i : ℕ) (x : MessageValue) → IsNet n → slice_get n.messages i ≡ Some x → IsMessage n.peers x
message_is n i x net e = all_at (IsMessage n.peers) n.messages i x net.messages e

pub deliver_keeps : (n m : NetValue) (i : ℕ) (node : Node) (answer : Answer) → IsNet n → IsDeliverIn n i node (Ok answer) m → IsNet m
deliver_keeps n m i node Delivered net (at, x, a, place, msg, there, inl old) = subst IsNet (sym old.1) net
deliver_keeps n m i node Delivered net (at, x, a, place, msg, there, inr (c, hears, e)) =
    subst IsNet (sym e) (heard_net n node at x a net place there (message_is n i x net msg) c hears)
deliver_keeps n m i node (Refused e) net (inl none) = subst IsNet (sym none.2) net
deliver_keeps n m i node (Refused e) net (inr none) = subst IsNet (sym none.2) net
deliver_keeps n m i node answer net is = absurd is

there_message : (n : NetValue) (i : ℕ) (x : MessageValue) → slice_get n.messages i ≡ Some x → slice_get (view n).messages i ≡ Some (told_by_message n x)
there_message n i x e = slice_get-map (told_by_message n) n.messages i ∙ ap (option_map (told_by_message n)) e

pub deliver_steps : (n m : NetValue) (i : ℕ) (node : Node) (answer : Answer) → IsNet n → IsDeliverIn n i node (Ok answer) m → DeliverStep (view n) i node answer (view m)
deliver_steps n m i node Delivered net (at, x, a, place, msg, there, inl old) = (
  node_there n node at place,
  (told_by_message n x, there_message n i x msg, subst (λ v. SameWorld (view v) (after_told (view n) node (told_by_message n x))) (sym old.1) (nothing_seen n node at x a net place there (message_is n i x net msg) old.0)),
)
deliver_steps n m i node Delivered net (at, x, a, place, msg, there, inr (c, hears, e)) = (
  node_there n node at place,
  (told_by_message n x, there_message n i x msg, subst (λ v. SameWorld (view v) (after_told (view n) node (told_by_message n x))) (sym e) (heard_seen n node at x a net place there (message_is n i x net msg) c hears)),
)
deliver_steps n m i node (Refused e) net (inl (none, r, same)) = subst (λ v. DeliverStep (view n) i node (Refused v) (view m)) (sym r) (inl (no_node n node none), still n m same)
deliver_steps n m i node (Refused e) net (inr (none, r, same)) = subst (λ v. DeliverStep (view n) i node (Refused v) (view m)) (sym r) (inr (slice_get-map (told_by_message n) n.messages i ∙ ap (option_map (told_by_message n)) none), still n m same)
deliver_steps n m i node answer net is = absurd is
