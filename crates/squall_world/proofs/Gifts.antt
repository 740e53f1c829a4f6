-- A partition gives keys on: the step of the world.
use Rattle.std.proofs.Common.{◌≡◌, ℕ, ◌+◌, ◌<◌, ◌==◌, Bool, true, false, not, [], ◌∷◌, ◌++◌, length, Ok, Err, refl, sym, ap, subst, ◌∙◌, arith, inl, inr}
use Rattle.std.specs.Prelude.{◌||◌, ◌&&◌}
use Rattle.std.proofs.lemmas.List.{append-nil}
use Rattle.squall_span.specs.Spans.{Interval, has, span_has, interval}
use Rattle.squall_board.specs.BoardQueries.{queries_of}
use Rattle.squall_protocol.specs.Chunks.{ChunkValue}
use Rattle.squall_part.specs.Parts.{PartValue, IsPart}
use Rattle.squall_part.specs.Giving.{IsChunkOf, after_giving}
use Rattle.squall_protocol.specs.declared.event.Node.TheVariants.{Part}
use Rattle.squall_protocol.specs.declared.event.Event.TheVariants.{Give, GiveAt}
use Rattle.squall_protocol.specs.declared.answer.Answer.{Answer}
use Rattle.squall_protocol.specs.declared.answer.Answer.TheVariants.{Gave, Refused}
use Rattle.squall_protocol.specs.Worlds.{SameWorld}
use Rattle.squall_protocol.specs.Steps.{after_give, GiveStep, GiveAtStep}
use Rattle.squall_nodes.specs.PartCalls.{give_refusal}
use Rattle.squall_nodes.proofs.Partitions.{held_after_giving, closed_after_giving, given_after_giving, loaded_after_giving}
use Rattle.squall_nodes.proofs.Gifts.{gives_by_step, gives_at_by_step}
use Rattle.squall_world.specs.declared.peer.Role.TheVariants.{Part as PartRole}
use Rattle.squall_world.specs.Nets.{PeerValue, NetValue, IsNet, IsPeer, IsRole, turned, with_peer, peer_of, role_board, part_in, leader_in}
use Rattle.squall_world.specs.Views.{view, part_of, held_by, closed_under, given_under, loaded_under, opened_by}
use Rattle.squall_world.specs.Events.{HasPart, IsGiveIn, IsGiveAtIn, with_gift}
use Rattle.squall_world.proofs.Lists.{eq_refl, all_at}
use Rattle.squall_world.proofs.Nodes.{IsChanged, each_part, no_node}
use Rattle.squall_world.proofs.History.{IsMore, history_of, history_more, more_turned}
use Rattle.squall_world.proofs.Kept.{SameKind, changed, changed_net, rest_net}
use Rattle.squall_world.proofs.Seen.{part_stands, part_found, ids_kept, counts_kept, facts_kept, parts_kept, messages_kept, still, step_to, refused_to}

and_true : (b : Bool) → b ≡ (b && true)
and_true true = refl
and_true false = refl

or_none : (b c : Bool) → b ≡ (b || (c && false))
or_none true c = refl
or_none false true = refl
or_none false false = refl

pub part_valid : (n : NetValue) (p at : ℕ) (peer : PeerValue) (a : PartValue) → IsNet n → HasPart n p at peer a → IsPeer peer × IsPart a
part_valid n p at peer a net h = let is = all_at IsPeer n.peers at peer net.peers h.there in (is, subst IsRole h.role is.role)

module _ (n : NetValue) (p at : ℕ) (peer : PeerValue) (a : PartValue) (x : ChunkValue) (s : ℕ) (net : IsNet n) (h : HasPart n p at peer a) (new : IsPart (after_giving a x.span)) (chunk : IsChunkOf a s x) (lt : x.span.lo < x.span.hi) where
  abbrev giver : PeerValue
  giver = turned peer (PartRole (after_giving a x.span))

  is_a : IsPart a
  is_a = (part_valid n p at peer a net h).1

  kind : SameKind peer.role (PartRole (after_giving a x.span))
  kind = subst (λ r. SameKind r (PartRole (after_giving a x.span))) (sym h.role) (refl, refl)

  ch : IsChanged n (Part p) at peer giver
  ch = changed n (Part p) at peer giver h.place h.there kind

  more : IsMore n.peers at peer giver
  more = more_turned n.peers n.messages at peer (PartRole (after_giving a x.span)) (history_of n net) h.there new (ap role_board (sym h.role))

  pub gift_keeps : IsNet (with_gift n at peer (after_giving a x.span) x)
  gift_keeps = rest_net (with_peer n at giver) n.messages (n.chunks ++ x ∷ []) (changed_net n (Part p) at peer giver net ch kind more) (history_more n.peers n.messages at peer giver (history_of n net) more)

  from : (p == x.source) ≡ true
  from = ap (λ v. p == v) (chunk.source ∙ h.id) ∙ eq_refl p

  not_from : (q : ℕ) → (q == p) ≡ false → (q == x.source) ≡ false
  not_from q f = ap (λ v. q == v) (chunk.source ∙ h.id) ∙ f

  held : (q k : ℕ) → held_by (part_of (peer_of (with_peer n at giver) (Part q))) k ≡ (held_by (part_of (peer_of n (Part q))) k && not ((q == x.source) && span_has x.span k))
  held q k = each_part n p at peer giver net ch (λ q o. held_by o k ≡ (held_by (part_of (peer_of n (Part q))) k && not ((q == x.source) && span_has x.span k)))
      (held_after_giving a x.span k ∙ (λ i. held_by (sym (part_found n p at peer a h) i) k && not (sym from i && span_has x.span k)))
      (λ q f. and_true (held_by (part_of (peer_of n (Part q))) k) ∙ ap (λ b. held_by (part_of (peer_of n (Part q))) k && not (b && span_has x.span k)) (sym (not_from q f)))
      q

  given : (m q k : ℕ) → given_under (part_of (peer_of (with_peer n at giver) (Part q))) m k ≡ (given_under (part_of (peer_of n (Part q))) m k || ((m == x.number) && ((q == x.source) && span_has x.span k)))
  given m q k = each_part n p at peer giver net ch (λ q o. given_under o m k ≡ (given_under (part_of (peer_of n (Part q))) m k || ((m == x.number) && ((q == x.source) && span_has x.span k))))
      (given_after_giving a x.span m k is_a lt ∙ (λ i. given_under (sym (part_found n p at peer a h) i) m k || ((m == sym chunk.number i) && (sym from i && span_has x.span k))))
      (λ q f. or_none (given_under (part_of (peer_of n (Part q))) m k) (m == x.number) ∙ ap (λ b. given_under (part_of (peer_of n (Part q))) m k || ((m == x.number) && (b && span_has x.span k))) (sym (not_from q f)))
      q

  pub gift_seen : SameWorld (view (with_gift n at peer (after_giving a x.span) x)) (after_give (view n) x)
  gift_seen = record {
    old = λ m. refl;
    new = λ m. refl;
    last = refl;
    opened = λ i. counts_kept n (Part p) at peer giver net ch (ap (λ r. opened_by (leader_in r)) (sym h.role)) i;
    parts = ids_kept n (Part p) at peer giver net ch;
    routers = refl;
    held = held;
    closed = λ m q. parts_kept n (Part p) at peer giver net ch (λ o. closed_under o m) (closed_after_giving a x.span m ∙ ap (λ r. closed_under (part_in r) m) (sym h.role)) q;
    given = given;
    loaded = λ m q k. parts_kept n (Part p) at peer giver net ch (λ o. loaded_under o m k) (ap (λ v. has v k) (loaded_after_giving a x.span m) ∙ ap (λ r. loaded_under (part_in r) m k) (sym h.role)) q;
    facts = λ y. facts_kept n (Part p) at peer giver net ch (ap (λ r. queries_of (role_board r)) (sym h.role)) y;
    messages = messages_kept n (Part p) at peer giver net ch [] (sym (append-nil peer.reports)) n.messages net.messages;
    chunks = refl;
  }

-- ---- the steps

pub give_keeps : (n m : NetValue) (p most : ℕ) (answer : Answer) → IsNet n → IsGiveIn n p most (Ok answer) m → IsNet m
give_keeps n m p most (Gave i x) net (at, peer, a, b, h, (sub, current, first, chunk, e), part, index, is) =
    subst IsNet (sym (is ∙ ap (λ v. with_gift n at peer v x) e)) (gift_keeps n p at peer a x sub net h (subst IsPart e part) chunk first.some)
give_keeps n m p most (Refused e) net (inl none) = subst IsNet (sym none.2) net
give_keeps n m p most (Refused e) net (inr (at, peer, a, f, h, is, r, same)) = subst IsNet (sym same) net
give_keeps n m p most answer net is = absurd is

pub give_steps : (n m : NetValue) (p most : ℕ) (answer : Answer) → IsNet n → IsGiveIn n p most (Ok answer) m → GiveStep (view n) p most answer (view m)
give_steps n m p most (Gave i x) net (at, peer, a, b, h, given, part, index, is) =
    let law = gives_by_step (view n) p most a b (Ok x) (part_stands n p at peer a net h) (part_valid n p at peer a net h).1 given in
    let e = given.4 in
    let seen : SameWorld (view m) (after_give (view n) x) = subst (λ v. SameWorld (view v) (after_give (view n) x)) (sym (is ∙ ap (λ v. with_gift n at peer v x) e)) (gift_seen n p at peer a x given.0 net h (subst IsPart e part) given.3 given.2.some) in
    subst (λ j. GiveStep (view n) p most (Gave j x) (view m)) (sym index) (step_to (view n) law.0 (view m) (after_give (view n) x) (Give p most) (Gave (length n.chunks) x) law.1 law.1.3 seen)
give_steps n m p most (Refused e) net (inl (none, r, same)) = subst (λ v. GiveStep (view n) p most (Refused v) (view m)) (sym r) (no_node n (Part p) none, still n m same)
give_steps n m p most (Refused e) net (inr (at, peer, a, f, h, is, r, same)) =
    refused_to n m (Give p most) (give_refusal f) e _ same (gives_by_step (view n) p most a a (Err f) (part_stands n p at peer a net h) (part_valid n p at peer a net h).1 is) r
give_steps n m p most answer net is = absurd is

one_span : (s : Interval) (k : ℕ) → s ≡ interval k (k + 1) → s.lo < s.hi
one_span s k e = subst (λ v. v.lo < v.hi) (sym e) (omega arith)

pub give_at_keeps : (n m : NetValue) (p k : ℕ) (answer : Answer) → IsNet n → IsGiveAtIn n p k (Ok answer) m → IsNet m
give_at_keeps n m p k (Gave i x) net (at, peer, a, b, h, (sub, current, out, kept, held, span, chunk, e), part, index, is) =
    subst IsNet (sym (is ∙ ap (λ v. with_gift n at peer v x) e)) (gift_keeps n p at peer a x sub net h (subst IsPart e part) chunk (one_span x.span k span))
give_at_keeps n m p k (Refused e) net (inl none) = subst IsNet (sym none.2) net
give_at_keeps n m p k (Refused e) net (inr (at, peer, a, f, h, is, r, same)) = subst IsNet (sym same) net
give_at_keeps n m p k answer net is = absurd is

pub give_at_steps : (n m : NetValue) (p k : ℕ) (answer : Answer) → IsNet n → IsGiveAtIn n p k (Ok answer) m → GiveAtStep (view n) p k answer (view m)
give_at_steps n m p k (Gave i x) net (at, peer, a, b, h, given, part, index, is) =
    let law = gives_at_by_step (view n) p k a b (Ok x) (part_stands n p at peer a net h) (part_valid n p at peer a net h).1 given in
    let e = given.7 in
    let seen : SameWorld (view m) (after_give (view n) x) = subst (λ v. SameWorld (view v) (after_give (view n) x)) (sym (is ∙ ap (λ v. with_gift n at peer v x) e)) (gift_seen n p at peer a x given.0 net h (subst IsPart e part) given.6 (one_span x.span k given.5)) in
    subst (λ j. GiveAtStep (view n) p k (Gave j x) (view m)) (sym index) (step_to (view n) law.0 (view m) (after_give (view n) x) (GiveAt p k) (Gave (length n.chunks) x) law.1 law.1.3 seen)
give_at_steps n m p k (Refused e) net (inl (none, r, same)) = subst (λ v. GiveAtStep (view n) p k (Refused v) (view m)) (sym r) (no_node n (Part p) none, still n m same)
give_at_steps n m p k (Refused e) net (inr (at, peer, a, f, h, is, r, same)) =
    refused_to n m (GiveAt p k) (give_refusal f) e _ same (gives_at_by_step (view n) p k a a (Err f) (part_stands n p at peer a net h) (part_valid n p at peer a net h).1 is) r
give_at_steps n m p k answer net is = absurd is
