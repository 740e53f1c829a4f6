-- A partition gives no more: the step of the world.
use Rattle.std.proofs.Common.{◌≡◌, ℕ, ◌==◌, Bool, true, false, [], refl, sym, ap, subst, ◌∙◌}
use Rattle.std.specs.Prelude.{◌||◌, ◌&&◌}
use Rattle.std.proofs.lemmas.List.{append-nil}
use Rattle.squall_span.specs.Spans.{has}
use Rattle.squall_board.specs.BoardQueries.{queries_of}
use Rattle.squall_part.specs.Parts.{PartValue, IsPart, course_of_part}
use Rattle.squall_part.specs.Giving.{after_close}
use Rattle.squall_protocol.specs.declared.event.Node.TheVariants.{Part}
use Rattle.squall_protocol.specs.declared.event.Event.TheVariants.{Close}
use Rattle.squall_protocol.specs.declared.answer.Answer.{Answer}
use Rattle.squall_protocol.specs.declared.answer.Answer.TheVariants.{Closed, Refused}
use Rattle.squall_protocol.specs.Worlds.{SameWorld}
use Rattle.squall_protocol.specs.Steps.{CloseStep}
use Rattle.squall_protocol.specs.Steps.{after_close as world_after_close}
use Rattle.squall_nodes.proofs.Partitions.{closed_after_close, given_after_close, loaded_after_close}
use Rattle.squall_nodes.proofs.Gifts.{closes_by_step}
use Rattle.squall_world.specs.declared.peer.Role.TheVariants.{Part as PartRole}
use Rattle.squall_world.specs.Nets.{PeerValue, NetValue, IsNet, turned, with_peer, peer_of, role_board, part_in, leader_in}
use Rattle.squall_world.specs.Views.{view, part_of, held_by, closed_under, given_under, loaded_under, opened_by}
use Rattle.squall_world.specs.Events.{HasPart, IsCloseIn, with_closed_part}
use Rattle.squall_world.proofs.Lists.{eq_refl}
use Rattle.squall_world.proofs.Nodes.{IsChanged, each_part, no_node}
use Rattle.squall_world.proofs.History.{IsMore, history_of, more_turned}
use Rattle.squall_world.proofs.Kept.{SameKind, changed, changed_net}
use Rattle.squall_world.proofs.Gifts.{part_valid}
use Rattle.squall_world.proofs.Seen.{part_stands, part_found, ids_kept, counts_kept, facts_kept, parts_kept, messages_kept, still, step_to}

and_same : (b : Bool) → (b && true) ≡ b
and_same true = refl
and_same false = refl

or_none : (b c : Bool) → b ≡ (b || (c && false))
or_none true c = refl
or_none false true = refl
or_none false false = refl

module _ (n : NetValue) (p at : ℕ) (peer : PeerValue) (a : PartValue) (net : IsNet n) (h : HasPart n p at peer a) (new : IsPart (after_close a)) where
  abbrev closer : PeerValue
  closer = turned peer (PartRole (after_close a))

  abbrev number : ℕ
  number = (course_of_part a).number

  is_a : IsPart a
  is_a = (part_valid n p at peer a net h).1

  kind : SameKind peer.role (PartRole (after_close a))
  kind = subst (λ r. SameKind r (PartRole (after_close a))) (sym h.role) (refl, refl)

  ch : IsChanged n (Part p) at peer closer
  ch = changed n (Part p) at peer closer h.place h.there kind

  more : IsMore n.peers at peer closer
  more = more_turned n.peers n.messages at peer (PartRole (after_close a)) (history_of n net) h.there new (ap role_board (sym h.role))

  pub closed_net : IsNet (with_closed_part n at peer a)
  closed_net = changed_net n (Part p) at peer closer net ch kind more

  closed : (m q : ℕ) → closed_under (part_of (peer_of (with_peer n at closer) (Part q))) m ≡ (closed_under (part_of (peer_of n (Part q))) m || ((m == number) && (q == p)))
  closed m q = each_part n p at peer closer net ch (λ q o. closed_under o m ≡ (closed_under (part_of (peer_of n (Part q))) m || ((m == number) && (q == p))))
      (closed_after_close a m is_a ∙ (λ i. closed_under (sym (part_found n p at peer a h) i) m || sym (and_same (m == number)) i) ∙ (λ i. closed_under (part_of (peer_of n (Part p))) m || ((m == number) && sym (eq_refl p) i)))
      (λ q f. or_none (closed_under (part_of (peer_of n (Part q))) m) (m == number) ∙ ap (λ b. closed_under (part_of (peer_of n (Part q))) m || ((m == number) && b)) (sym f))
      q

  pub closed_seen : SameWorld (view (with_closed_part n at peer a)) (world_after_close (view n) number p)
  closed_seen = record {
    old = λ m. refl;
    new = λ m. refl;
    last = refl;
    opened = λ i. counts_kept n (Part p) at peer closer net ch (ap (λ r. opened_by (leader_in r)) (sym h.role)) i;
    parts = ids_kept n (Part p) at peer closer net ch;
    routers = refl;
    held = λ q k. parts_kept n (Part p) at peer closer net ch (λ o. held_by o k) (ap (λ r. held_by (part_in r) k) (sym h.role)) q;
    closed = closed;
    given = λ m q k. parts_kept n (Part p) at peer closer net ch (λ o. given_under o m k) (ap (λ v. has v k) (given_after_close a m) ∙ ap (λ r. given_under (part_in r) m k) (sym h.role)) q;
    loaded = λ m q k. parts_kept n (Part p) at peer closer net ch (λ o. loaded_under o m k) (ap (λ v. has v k) (loaded_after_close a m) ∙ ap (λ r. loaded_under (part_in r) m k) (sym h.role)) q;
    facts = λ y. facts_kept n (Part p) at peer closer net ch (ap (λ r. queries_of (role_board r)) (sym h.role)) y;
    messages = messages_kept n (Part p) at peer closer net ch [] (sym (append-nil peer.reports)) n.messages net.messages;
    chunks = refl;
  }

pub close_keeps : (n m : NetValue) (p : ℕ) (answer : Answer) → IsNet n → IsCloseIn n p answer m → IsNet m
close_keeps n m p (Closed k) net (at, peer, a, h, new, is, after) = subst IsNet (sym after) (closed_net n p at peer a net h new)
close_keeps n m p (Refused e) net none = subst IsNet (sym none.2) net
close_keeps n m p answer net is = absurd is

pub close_steps : (n m : NetValue) (p : ℕ) (answer : Answer) → IsNet n → IsCloseIn n p answer m → CloseStep (view n) p answer (view m)
close_steps n m p (Closed k) net (at, peer, a, h, new, is, after) =
    let law = closes_by_step (view n) p a (part_stands n p at peer a net h) (part_valid n p at peer a net h).1 in
    let seen : SameWorld (view m) (world_after_close (view n) (course_of_part a).number p) = subst (λ v. SameWorld (view v) (world_after_close (view n) (course_of_part a).number p)) (sym after) (closed_seen n p at peer a net h new) in
    subst (λ j. CloseStep (view n) p (Closed j) (view m)) (sym is) (step_to (view n) law.0 (view m) (world_after_close (view n) (course_of_part a).number p) (Close p) (Closed (course_of_part a).number) law.1 (subst (λ j. SameWorld law.0 (world_after_close (view n) j p)) (sym law.1.1.2) law.1.1.3) seen)
close_steps n m p (Refused e) net (none, r, same) = subst (λ v. CloseStep (view n) p (Refused v) (view m)) (sym r) (no_node n (Part p) none, still n m same)
close_steps n m p answer net is = absurd is
