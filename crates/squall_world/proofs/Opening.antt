-- The leader opens the next sub-plan.
use Rattle.std.proofs.Common.{◌≡◌, ℕ, ◌+◌, ◌<◌, ◌≤◌, [], ◌∷◌, length, None, Some, Ok, Err, refl, sym, ap, subst, ◌∙◌, arith}
use Rattle.std.specs.List.{slice_get}
use Rattle.std.proofs.lemmas.Option.{same_Some}
use Rattle.squall_course.specs.Change.{Change}
use Rattle.squall_course.specs.Subplans.{subplan_count}
use Rattle.squall_course.proofs.Tabled.{most_few}
use Rattle.squall_report.specs.Queries.{joined_queries, opened_queries}
use Rattle.squall_board.specs.Boards.{IsBoard, board_join, report_board}
use Rattle.squall_board.specs.BoardQueries.{queries_of}
use Rattle.squall_board.specs.BoardLaws.{opening_board_is}
use Rattle.squall_leader.specs.Leaders.{LeaderValue, IsLeader, IsOpened, open_report}
use Rattle.squall_protocol.specs.declared.event.Node.TheVariants.{Leader}
use Rattle.squall_protocol.specs.declared.event.Event.TheVariants.{OpenNext}
use Rattle.squall_protocol.specs.declared.answer.Answer.{Answer}
use Rattle.squall_protocol.specs.declared.answer.Answer.TheVariants.{Opened, Refused}
use Rattle.squall_protocol.specs.Worlds.{SameWorld}
use Rattle.squall_protocol.specs.Steps.{OpenStep, after_open}
use Rattle.squall_nodes.specs.LeaderCalls.{open_refusal, opened_sub}
use Rattle.squall_nodes.proofs.Agree.{queries_report}
use Rattle.squall_nodes.proofs.Leads.{one_course, opens_by_step}
use Rattle.squall_world.specs.declared.peer.Role.TheVariants.{Leader as LeaderRole}
use Rattle.squall_world.specs.Nets.{PeerValue, NetValue, IsNet, role_board, leader_in, part_in}
use Rattle.squall_world.specs.Views.{view, opened_by, opened_in, opened_under, held_by, closed_under, given_under, loaded_under}
use Rattle.squall_world.specs.Events.{HasLeader, IsOpenIn, with_report}
use Rattle.squall_world.proofs.Lists.{put_here}
use Rattle.squall_world.proofs.Courses.{opened_more}
use Rattle.squall_world.proofs.Nodes.{IsChanged}
use Rattle.squall_world.proofs.Kept.{SameKind, changed, changed_net}
use Rattle.squall_world.proofs.Seen.{ids_kept, facts_told, parts_kept, messages_kept, step_to, refused_to}
use Rattle.squall_world.proofs.Led.{leader_stands, leader_reports, leader_more, leader_is}

-- what opening says, with the course and the sub-plan
record IsOpening (a b : LeaderValue) (c : Change) (s : ℕ) : Type 0 where
  below : a.opened < subplan_count c.old c.new
  sub : s ≡ a.opened
  course : b.course ≡ a.course
  opened : b.opened ≡ a.opened + 1
  board : b.board ≡ board_join a.board (report_board (open_report c s))

opening : (a b : LeaderValue) (c : Change) (s : ℕ) → a.course ≡ Some c → IsOpened a (Ok (open_report c s)) b → IsOpening a b c s
opening a b c s course (d, is, none, below, report, after) =
    let one : d ≡ c = same_Some d c (sym is ∙ course) in
    let at : s ≡ a.opened = ap opened_sub report in
    record {
      below = subst (λ (e : Change). a.opened < subplan_count e.old e.new) one below;
      sub = at;
      course = ap (λ (l : LeaderValue). l.course) after;
      opened = ap (λ (l : LeaderValue). l.opened) after;
      board = ap (λ (l : LeaderValue). l.board) after ∙ (λ i. board_join a.board (report_board (open_report (one i) (sym at i))));
    }

-- the leader's node changed
module _ (n : NetValue) (peer : PeerValue) (a b : LeaderValue) (c : Change) (s : ℕ) (net : IsNet n) (has : HasLeader n peer a) (course : a.course ≡ Some c) (o : IsOpening a b c s) (is : IsLeader b) where
  same_kind : SameKind peer.role (LeaderRole b)
  same_kind = subst (λ r. SameKind r (LeaderRole b)) (sym has.role) o.course

  is_changed : IsChanged n Leader 0 peer (leader_reports peer b (open_report c s))
  is_changed = changed n Leader 0 peer (leader_reports peer b (open_report c s)) refl has.there same_kind

  is_board : IsBoard (report_board (open_report c s))
  is_board =
      let low : 1 ≤ c.number = (leader_is n peer a net has).numbered c course in
      let below : a.opened < subplan_count c.old c.new = o.below in
      let few = most_few c.old c.new c.old in
      let sub : s ≡ a.opened = o.sub in
      opening_board_is c.number (s + 1) low (omega arith) (omega (arith, below, few, sub))

  opened_net : IsNet (with_report n 0 peer (LeaderRole b) (open_report c s))
  opened_net = changed_net n Leader 0 peer (leader_reports peer b (open_report c s)) net is_changed same_kind (leader_more n peer a b (open_report c s) net has is o.board is_board)

  no_part : part_in peer.role ≡ None
  no_part = ap part_in has.role

  opened_world : SameWorld (view (with_report n 0 peer (LeaderRole b) (open_report c s))) (after_open (view n))
  opened_world =
      let seen = leader_stands n peer a net has in
      let number : c.number ≡ (view n).last = ap (λ (d : Change). d.number) (one_course (view n) a seen (leader_is n peer a net has) c course) in
      let new = leader_reports peer b (open_report c s) in
      record {
        old = λ i. refl;
        new = λ i. refl;
        last = refl;
        opened = λ i. ap (λ v. opened_under n.ended v i) (ap opened_in (put_here 0 new peer n.peers has.there) ∙ o.opened ∙ ap (λ v. v + 1) (sym (ap opened_in has.there ∙ ap (λ r. opened_by (leader_in r)) has.role)))
            ∙ opened_more n.ended (opened_in (slice_get n.peers 0)) (length n.courses) i net.ended;
        parts = ids_kept n Leader 0 peer new net is_changed;
        routers = refl;
        held = λ p k. parts_kept n Leader 0 peer new net is_changed (λ x. held_by x k) (ap (λ x. held_by x k) (sym no_part)) p;
        closed = λ m p. parts_kept n Leader 0 peer new net is_changed (λ x. closed_under x m) (ap (λ x. closed_under x m) (sym no_part)) p;
        given = λ m p k. parts_kept n Leader 0 peer new net is_changed (λ x. given_under x m k) (ap (λ x. given_under x m k) (sym no_part)) p;
        loaded = λ m p k. parts_kept n Leader 0 peer new net is_changed (λ x. loaded_under x m k) (ap (λ x. loaded_under x m k) (sym no_part)) p;
        facts = facts_told n Leader 0 peer new net is_changed (opened_queries (view n).last ((view n).opened (view n).last))
            (ap queries_of o.board ∙ queries_report a.board (open_report c s) (leader_is n peer a net has).board is_board
            ∙ (λ i. joined_queries (queries_of (role_board (sym has.role i))) (opened_queries (number i) ((o.sub ∙ sym seen.opened) i))));
        messages = messages_kept n Leader 0 peer new net is_changed (open_report c s ∷ []) refl n.messages net.messages;
        chunks = refl;
      }

pub open_keeps : (n : NetValue) (answer : Answer) (m : NetValue) → IsNet n → IsOpenIn n (Ok answer) m → IsNet m
open_keeps n (Opened s) m net (peer, a, b, c, has, course, opened, is, after) = subst IsNet (sym after) (opened_net n peer a b c s net has course (opening a b c s course opened) is)
open_keeps n (Refused e) m net (peer, a, f, has, opened, refusal, after) = subst IsNet (sym after) net
open_keeps n _ m net h = absurd h

pub open_steps : (n : NetValue) (answer : Answer) (m : NetValue) → IsNet n → IsOpenIn n (Ok answer) m → OpenStep (view n) answer (view m)
open_steps n (Opened s) m net (peer, a, b, c, has, course, opened, is, after) =
    let law = opens_by_step (view n) a b (Ok (open_report c s)) (leader_stands n peer a net has) (leader_is n peer a net has) opened in
    step_to (view n) law.0 (view m) (after_open (view n)) OpenNext (Opened s) law.1 law.1.3
    (subst (λ v. SameWorld (view v) (after_open (view n))) (sym after) (opened_world n peer a b c s net has course (opening a b c s course opened) is))
open_steps n (Refused e) m net (peer, a, f, has, opened, refusal, after) =
    refused_to n m OpenNext (open_refusal f) e _ after (opens_by_step (view n) a a (Err f) (leader_stands n peer a net has) (leader_is n peer a net has) opened) refusal
open_steps n _ m net h = absurd h
