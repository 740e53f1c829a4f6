-- What is seen of a world where one node changed.
use Rattle.std.proofs.Common.{◌≡◌, ℕ, ◌<◌, ◌==◌, Bool, true, false, cond, List, [], ◌∷◌, ◌++◌, map, Option, Some, refl, sym, ap, subst, ◌∙◌}
use Rattle.std.specs.List.{slice_get, AllByRecursion}
use Rattle.std.proofs.lemmas.Option.{same_Some}
use Rattle.squall_key.specs.Keys.{part_limit}
use Rattle.squall_report.specs.Queries.{Queries, SameQueries, joined_queries}
use Rattle.squall_board.specs.Boards.{board_join}
use Rattle.squall_board.specs.BoardQueries.{queries_of}
use Rattle.squall_part.specs.Parts.{PartValue}
use Rattle.squall_protocol.specs.declared.event.Node.{Node}
use Rattle.squall_protocol.specs.declared.event.Node.TheVariants.{Leader, Part, Router}
use Rattle.squall_protocol.specs.declared.event.Event.{Event}
use Rattle.squall_protocol.specs.declared.answer.Answer.{Answer}
use Rattle.squall_protocol.specs.declared.answer.Answer.TheVariants.{Refused}
use Rattle.squall_protocol.specs.declared.answer.Refusal.{Refusal}
use Rattle.squall_protocol.specs.Worlds.{WorldValue, SameWorld, same_node}
use Rattle.squall_protocol.specs.Steps.{Step, told_to}
use Rattle.squall_protocol.specs.WorldLaws.{same_as_itself, same_world}
use Rattle.squall_nodes.specs.Standing.{StandsForPart, Becomes, refused}
use Rattle.squall_nodes.proofs.Agree.{same_by, same_refl}
use Rattle.squall_nodes.proofs.Refused.{refused_step}
use Rattle.squall_world.specs.Nets.{PeerValue, NetValue, IsNet, place_of, peer_of, at_place, put_at, role_board, first_of, leader_in, part_in, MessageValue, IsMessage, with_peer}
use Rattle.squall_world.specs.Views.{view, id_of, ids_in, part_of, held_by, closed_under, given_under, loaded_under, facts_of, opened_by, opened_in, opened_under, told_by_message}
use Rattle.squall_world.specs.Events.{HasPart}
use Rattle.squall_world.proofs.Lists.{eq_same, eq_apart, flat_put, put_here, put_there}
use Rattle.squall_world.proofs.Nodes.{IsChanged, node_there, part_there, part_same, first_seen, each_node, at_part}
use Rattle.squall_world.proofs.Told.{told_more}
use Rattle.squall_report.specs.declared.report.ReportKind.{ReportKind}
use Rattle.squall_report.specs.Issues.{PlanPair}

-- ---- a partition, as it is seen

pub peer_there : (n : NetValue) (x : Node) (at : ℕ) (peer : PeerValue) → place_of n x ≡ Some at → slice_get n.peers at ≡ Some peer → peer_of n x ≡ Some peer
peer_there n x at peer place there = ap (at_place n.peers) place ∙ there

pub part_found : (n : NetValue) (p at : ℕ) (peer : PeerValue) (a : PartValue) → HasPart n p at peer a → part_of (peer_of n (Part p)) ≡ Some a
part_found n p at peer a h = ap part_of (peer_there n (Part p) at peer h.place h.there) ∙ ap part_in h.role

pub facts_found : (n : NetValue) (p at : ℕ) (peer : PeerValue) (a : PartValue) → HasPart n p at peer a → facts_of (peer_of n (Part p)) ≡ queries_of a.board
facts_found n p at peer a h = ap facts_of (peer_there n (Part p) at peer h.place h.there) ∙ ap (λ r. queries_of (role_board r)) h.role

-- what always holds of it
pub part_is_there : (n : NetValue) (p at : ℕ) (peer : PeerValue) (a : PartValue) → IsNet n → HasPart n p at peer a → (a.first ≡ first_of n) × (a.id < part_limit) × (n.routers < at)
part_is_there n p at peer a net h =
    let t = part_there n p at net h.place in
    let e : t.part ≡ a = part_same t.part a (sym t.role ∙ ap (λ v. v.role) (same_Some t.peer peer (sym t.there ∙ h.there)) ∙ h.role) in
    (ap (λ v. v.first) (sym e) ∙ t.first, subst (λ v. v.id < part_limit) e t.limit, t.after)

-- it stands for the partition of the world
pub part_stands : (n : NetValue) (p at : ℕ) (peer : PeerValue) (a : PartValue) → IsNet n → HasPart n p at peer a → StandsForPart (view n) p a
part_stands n p at peer a net h =
    let o = part_found n p at peer a h in
    let there = part_is_there n p at peer a net h in
    record {
      there = node_there n (Part p) at h.place;
      limit = subst (λ v. v < part_limit) h.id there.1;
      id = h.id;
      first = first_seen n net ∙ sym there.0;
      told = same_by _ _ (facts_found n p at peer a h);
      held = λ k. ap (λ v. held_by v k) o;
      closed = λ m. ap (λ v. closed_under v m) o;
      given = λ m k. ap (λ v. given_under v m k) o;
      loaded = λ m k. ap (λ v. loaded_under v m k) o;
    }

-- ---- a changed node

module _ (n : NetValue) (x : Node) (at : ℕ) (a c : PeerValue) (net : IsNet n) (ch : IsChanged n x at a c) where
  pub ids_kept : ids_in (with_peer n at c) ≡ ids_in n
  ids_kept = flat_put (λ p. id_of p.role) at c a n.peers ch.there ch.ids

  pub opened_kept : opened_by (leader_in c.role) ≡ opened_by (leader_in a.role) → opened_in (slice_get (with_peer n at c).peers 0) ≡ opened_in (slice_get n.peers 0)
  opened_kept same = by (0 == at) refl
    where
      by : (b : Bool) → (0 == at) ≡ b → opened_in (slice_get (put_at at c n.peers) 0) ≡ opened_in (slice_get n.peers 0)
      by true e =
          let z : 0 ≡ at = eq_same 0 at e in
          ap opened_in (ap (slice_get (put_at at c n.peers)) z ∙ put_here at c a n.peers ch.there) ∙ same ∙ ap opened_in (sym ch.there ∙ ap (slice_get n.peers) (sym z))
      by false e = ap opened_in (put_there at 0 c n.peers (eq_apart 0 at e))

  -- so with the count of each course
  pub counts_kept : opened_by (leader_in c.role) ≡ opened_by (leader_in a.role) → (i : ℕ) → (view (with_peer n at c)).opened i ≡ (view n).opened i
  counts_kept same i = ap (λ v. opened_under n.ended v i) (opened_kept same)

  here_was : peer_of n x ≡ Some a
  here_was = peer_there n x at a ch.place ch.there

  -- it was told more, and no other was
  pub facts_told : (more : Queries) → queries_of (role_board c.role) ≡ joined_queries (queries_of (role_board a.role)) more → (y : Node) → SameQueries (facts_of (peer_of (with_peer n at c) y)) (told_to (view n) x more y)
  facts_told more e y = same_by _ _ (each_node n x at a c net ch (λ z o. facts_of o ≡ told_to (view n) x more z) here other y)
    where
      here : facts_of (Some c) ≡ told_to (view n) x more x
      here = e ∙ ap (λ o. joined_queries (facts_of o) more) (sym here_was) ∙ ap (λ b. cond b (joined_queries (facts_of (peer_of n x)) more) (facts_of (peer_of n x))) (sym (same_refl x))

      other : (z : Node) → same_node z x ≡ false → facts_of (peer_of n z) ≡ told_to (view n) x more z
      other z f = ap (λ b. cond b (joined_queries (facts_of (peer_of n z)) more) (facts_of (peer_of n z))) (sym f)

  -- all know what they knew
  pub facts_kept : queries_of (role_board c.role) ≡ queries_of (role_board a.role) → (y : Node) → SameQueries (facts_of (peer_of (with_peer n at c) y)) (facts_of (peer_of n y))
  facts_kept e y = same_by _ _ (each_node n x at a c net ch (λ z o. facts_of o ≡ facts_of (peer_of n z)) (e ∙ ap facts_of (sym here_was)) (λ z f. refl) y)

  -- what partitions answer is kept where the changed node's answers are
  pub parts_kept : {A : Type 0} (f : Option PartValue → A) → f (part_in c.role) ≡ f (part_in a.role) → (q : ℕ) → f (part_of (peer_of (with_peer n at c) (Part q))) ≡ f (part_of (peer_of n (Part q)))
  parts_kept {A = A} f e q = each_node n x at a c net ch (at_part (λ p o. f o ≡ f (part_of (peer_of n (Part p))))) (here x here_was) others (Part q)
    where
      here : (z : Node) → peer_of n z ≡ Some a → at_part (λ p o. f o ≡ f (part_of (peer_of n (Part p)))) z (Some c)
      here Leader was = tt
      here (Part p) was = e ∙ ap (λ o. f (part_of o)) (sym was)
      here (Router r) was = tt

      others : (z : Node) → same_node z x ≡ false → at_part (λ p o. f o ≡ f (part_of (peer_of n (Part p)))) z (peer_of n z)
      others Leader f = tt
      others (Part p) f = refl
      others (Router r) f = tt

  -- messages tell what they told where the node made more reports
  pub messages_kept : (more : List (ReportKind PlanPair)) → c.reports ≡ a.reports ++ more → (ms : List MessageValue) → AllByRecursion (IsMessage n.peers) ms → map (told_by_message (with_peer n at c)) ms ≡ map (told_by_message n) ms
  messages_kept more e [] all = refl
  messages_kept more e (m ∷ ms) all = λ i. queries_of (board_join (told_more at n.peers m.known a c more ch.there e all.0.within i) m.extra) ∷ messages_kept more e ms all.1 i

-- ---- nothing changed

pub still : (n m : NetValue) → m ≡ n → SameWorld (view m) (view n)
still n m e = subst (λ v. SameWorld (view v) (view n)) (sym e) (same_as_itself (view n))

-- a step to a world is one to each that is the same
pub step_to : (w v u t : WorldValue) (event : Event) (answer : Answer) → Step w event answer v → SameWorld v t → SameWorld u t → Step w event answer u
step_to w v u t event answer step a b = subst (Step w event answer) (same_world v t a ∙ sym (same_world u t b)) step

-- a call that is refused, by its law: the refusal is a step, and nothing changed
pub refused_to : (n m : NetValue) (event : Event) (o : Option Refusal) (e : Refusal) (After : WorldValue → Type 0) → m ≡ n → Becomes (view n) event (refused o) After → o ≡ Some e → Step (view n) event (Refused e) (view m)
refused_to n m event o e After same law is = subst (λ v. Step (view n) event (Refused e) (view v)) (sym same) (refused_step (view n) event o e After law is)
